-- The spellings of keywords, unsupported words and punctuators.
use Rattle.std.specs.Prelude.{◌≢◌, ℕ, List, codes}
use Rattle.cs_ast.specs.declared.token.Keyword.{Keyword}
use Rattle.cs_ast.specs.declared.token.Keyword.TheVariants.{Break, Case, Char, Const, Continue, Default, Do, Else, Enum, For, Goto, If, Int, Long, Return}
use Rattle.cs_ast.specs.declared.token.Keyword.TheVariants.{Short, Signed, Sizeof, Static, Struct, Switch, Typedef, Unsigned, Void, While}
use Rattle.cs_ast.specs.declared.token.Unsupported.{Unsupported}
use Rattle.cs_ast.specs.declared.token.Unsupported.TheVariants.{Float, Double, Union, Bool, Complex, Imaginary, Atomic, Alignas, Alignof, Generic, Noreturn}
use Rattle.cs_ast.specs.declared.token.Unsupported.TheVariants.{StaticAssert, ThreadLocal, Int128, Asm, AsmUnderscored, AsmPrefixed, Typeof, TypeofUnderscored}
use Rattle.cs_ast.specs.declared.token.Unsupported.TheVariants.{Auto}
use Rattle.cs_ast.specs.declared.token.Punctuator.{Punctuator}
use Rattle.cs_ast.specs.declared.token.Punctuator.TheVariants.{OpenBracket, CloseBracket, OpenParenthesis, CloseParenthesis, OpenBrace, CloseBrace, Dot, Arrow}
use Rattle.cs_ast.specs.declared.token.Punctuator.TheVariants.{Increment, Decrement, Ampersand, Star, Plus, Minus, Tilde, Exclamation, Slash, Percent}
use Rattle.cs_ast.specs.declared.token.Punctuator.TheVariants.{ShiftLeft, ShiftRight, Less, More, AtMost, AtLeast, EqualEqual, Differs, Caret, Bar, AndAnd}
use Rattle.cs_ast.specs.declared.token.Punctuator.TheVariants.{BarBar, Question, Colon, Semicolon, Equal, StarEqual, SlashEqual, PercentEqual, PlusEqual}
use Rattle.cs_ast.specs.declared.token.Punctuator.TheVariants.{MinusEqual, ShiftLeftEqual, ShiftRightEqual, AmpersandEqual, CaretEqual, BarEqual, Comma}
use Rattle.cs_ast.specs.declared.token.Punctuator.TheVariants.{Ellipsis}

abbrev pub keyword_text : Keyword → List ℕ
keyword_text Break = codes "break"
keyword_text Case = codes "case"
keyword_text Char = codes "char"
keyword_text Const = codes "const"
keyword_text Continue = codes "continue"
keyword_text Default = codes "default"
keyword_text Do = codes "do"
keyword_text Else = codes "else"
keyword_text Enum = codes "enum"
keyword_text For = codes "for"
keyword_text Goto = codes "goto"
keyword_text If = codes "if"
keyword_text Int = codes "int"
keyword_text Long = codes "long"
keyword_text Return = codes "return"
keyword_text Short = codes "short"
keyword_text Signed = codes "signed"
keyword_text Sizeof = codes "sizeof"
keyword_text Static = codes "static"
keyword_text Struct = codes "struct"
keyword_text Switch = codes "switch"
keyword_text Typedef = codes "typedef"
keyword_text Unsigned = codes "unsigned"
keyword_text Void = codes "void"
keyword_text While = codes "while"

abbrev pub unsupported_text : Unsupported → List ℕ
unsupported_text Float = codes "float"
unsupported_text Double = codes "double"
unsupported_text Union = codes "union"
unsupported_text Bool = codes "_Bool"
unsupported_text Complex = codes "_Complex"
unsupported_text Imaginary = codes "_Imaginary"
unsupported_text Atomic = codes "_Atomic"
unsupported_text Alignas = codes "_Alignas"
unsupported_text Alignof = codes "_Alignof"
unsupported_text Generic = codes "_Generic"
unsupported_text Noreturn = codes "_Noreturn"
unsupported_text StaticAssert = codes "_Static_assert"
unsupported_text ThreadLocal = codes "_Thread_local"
unsupported_text Int128 = codes "__int128"
unsupported_text Asm = codes "asm"
unsupported_text AsmUnderscored = codes "__asm__"
unsupported_text AsmPrefixed = codes "__asm"
unsupported_text Typeof = codes "typeof"
unsupported_text TypeofUnderscored = codes "__typeof__"
unsupported_text Auto = codes "auto"

abbrev pub punctuator_text : Punctuator → List ℕ
punctuator_text OpenBracket = codes "["
punctuator_text CloseBracket = codes "]"
punctuator_text OpenParenthesis = codes "("
punctuator_text CloseParenthesis = codes ")"
punctuator_text OpenBrace = codes "{"
punctuator_text CloseBrace = codes "}"
punctuator_text Dot = codes "."
punctuator_text Arrow = codes "->"
punctuator_text Increment = codes "++"
punctuator_text Decrement = codes "--"
punctuator_text Ampersand = codes "&"
punctuator_text Star = codes "*"
punctuator_text Plus = codes "+"
punctuator_text Minus = codes "-"
punctuator_text Tilde = codes "~"
punctuator_text Exclamation = codes "!"
punctuator_text Slash = codes "/"
punctuator_text Percent = codes "%"
punctuator_text ShiftLeft = codes "<<"
punctuator_text ShiftRight = codes ">>"
punctuator_text Less = codes "<"
punctuator_text More = codes ">"
punctuator_text AtMost = codes "<="
punctuator_text AtLeast = codes ">="
punctuator_text EqualEqual = codes "=="
punctuator_text Differs = codes "!="
punctuator_text Caret = codes "^"
punctuator_text Bar = codes "|"
punctuator_text AndAnd = codes "&&"
punctuator_text BarBar = codes "||"
punctuator_text Question = codes "?"
punctuator_text Colon = codes ":"
punctuator_text Semicolon = codes ";"
punctuator_text Equal = codes "="
punctuator_text StarEqual = codes "*="
punctuator_text SlashEqual = codes "/="
punctuator_text PercentEqual = codes "%="
punctuator_text PlusEqual = codes "+="
punctuator_text MinusEqual = codes "-="
punctuator_text ShiftLeftEqual = codes "<<="
punctuator_text ShiftRightEqual = codes ">>="
punctuator_text AmpersandEqual = codes "&="
punctuator_text CaretEqual = codes "^="
punctuator_text BarEqual = codes "|="
punctuator_text Comma = codes ","
punctuator_text Ellipsis = codes "..."

-- not one of the two unsupported words that are longer than ten bytes
pub record NoLongUnsupported (text : List ℕ) : Type 0 where
  pub no_assertion : codes "_Static_assert" ≢ text
  pub no_thread_local : codes "_Thread_local" ≢ text

-- not one of the assignment operators
pub record IsNoAssignment (text : List ℕ) : Type 0 where
  pub no_equal : codes "=" ≢ text
  pub no_star_equal : codes "*=" ≢ text
  pub no_slash_equal : codes "/=" ≢ text
  pub no_percent_equal : codes "%=" ≢ text
  pub no_plus_equal : codes "+=" ≢ text
  pub no_minus_equal : codes "-=" ≢ text
  pub no_shift_left_equal : codes "<<=" ≢ text
  pub no_shift_right_equal : codes ">>=" ≢ text
  pub no_ampersand_equal : codes "&=" ≢ text
  pub no_caret_equal : codes "^=" ≢ text
  pub no_bar_equal : codes "|=" ≢ text
