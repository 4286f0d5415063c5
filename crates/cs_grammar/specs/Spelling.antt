-- The spellings of the words and punctuators of C that aren't supported.
use Rattle.std.specs.Prelude.{ℕ, List, [], codes}
use Rattle.cs_ast.specs.declared.token.TokenKind.{TokenKind}
use Rattle.cs_ast.specs.declared.token.TokenKind.TheVariants as token
use Rattle.cs_ast.specs.declared.token.Keyword.TheVariants as keyword
use Rattle.cs_ast.specs.declared.token.Punctuator.TheVariants as punctuator
use Rattle.cs_ast.specs.declared.token.Unsupported.{Unsupported}
use Rattle.cs_ast.specs.declared.token.Unsupported.TheVariants as left

-- the bytes of an unsupported word
abbrev pub word_spelling : Unsupported → List ℕ
word_spelling left.Float = codes "float"
word_spelling left.Double = codes "double"
word_spelling left.Union = codes "union"
word_spelling left.Bool = codes "_Bool"
word_spelling left.Complex = codes "_Complex"
word_spelling left.Imaginary = codes "_Imaginary"
word_spelling left.Atomic = codes "_Atomic"
word_spelling left.Alignas = codes "_Alignas"
word_spelling left.Alignof = codes "_Alignof"
word_spelling left.Generic = codes "_Generic"
word_spelling left.Noreturn = codes "_Noreturn"
word_spelling left.StaticAssert = codes "_Static_assert"
word_spelling left.ThreadLocal = codes "_Thread_local"
word_spelling left.Int128 = codes "__int128"
word_spelling left.Asm = codes "asm"
word_spelling left.AsmUnderscored = codes "__asm__"
word_spelling left.AsmPrefixed = codes "__asm"
word_spelling left.Typeof = codes "typeof"
word_spelling left.TypeofUnderscored = codes "__typeof__"
word_spelling left.Auto = codes "auto"

-- the bytes of a token that is unsupported somewhere, none for any other token
abbrev pub unsupported_spelling : TokenKind → List ℕ
unsupported_spelling (token.Unsupported word) = word_spelling word
unsupported_spelling (token.Punctuator punctuator.Ellipsis) = codes "..."
unsupported_spelling (token.Punctuator punctuator.OpenBrace) = codes "{"
unsupported_spelling (token.Punctuator punctuator.OpenParenthesis) = codes "("
unsupported_spelling (token.Punctuator punctuator.OpenBracket) = codes "["
unsupported_spelling (token.Punctuator punctuator.Dot) = codes "."
unsupported_spelling (token.Punctuator punctuator.Colon) = codes ":"
unsupported_spelling (token.Keyword keyword.Static) = codes "static"
unsupported_spelling (token.Keyword keyword.Typedef) = codes "typedef"
unsupported_spelling other = []
