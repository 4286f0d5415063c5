-- The tokens of a written expression, by their kinds. Each definition takes the tokens that follow.
use Rattle.std.specs.Prelude.{ℕ, List, [], ◌∷◌, length}
use Rattle.cs_ast.specs.declared.token.TokenKind.{TokenKind}
use Rattle.cs_ast.specs.declared.token.TokenKind.TheVariants as token
use Rattle.cs_ast.specs.declared.token.Keyword.TheVariants as keyword
use Rattle.cs_ast.specs.declared.token.Punctuator.TheVariants as punctuator
use Rattle.cs_ast.specs.declared.raw.written_type.TypeWord.{TypeWord}
use Rattle.cs_ast.specs.declared.raw.written_type.TypeWord.TheVariants as word
use Rattle.cs_ast.specs.declared.raw.written_type.IntegerWord.{IntegerWord}
use Rattle.cs_ast.specs.declared.raw.written_type.IntegerWord.TheVariants.{Char, Short, Int, Long, Signed, Unsigned}
use Rattle.cs_ast.specs.declared.raw.written_type.PointerWord.{PointerWord}
use Rattle.cs_ast.specs.declared.raw.written_type.PointerWord.TheVariants as pointer
use Rattle.cs_ast.specs.RawTree.{Written, WrittenList, Named, Numeral, Character, Literal, Enclosed, Index, Call, Member, Arrow, StepAfter, StepBefore, Prefix}
use Rattle.cs_ast.specs.RawTree.{SizeOf, SizeOfType, Cast, Infix, Choice, Assign, Comma, End, More}
use Rattle.cs_grammar.specs.Punctuators.{step_punctuator, prefix_punctuator, infix_punctuator, assign_punctuator}

-- a list of tokens, by their kinds
abbrev pub Kinds : Type 0
Kinds = List TokenKind

abbrev pub integer_word_text : IntegerWord → TokenKind
integer_word_text Char = token.Keyword keyword.Char
integer_word_text Short = token.Keyword keyword.Short
integer_word_text Int = token.Keyword keyword.Int
integer_word_text Long = token.Keyword keyword.Long
integer_word_text Signed = token.Keyword keyword.Signed
integer_word_text Unsigned = token.Keyword keyword.Unsigned

abbrev pub type_word_text : TypeWord → Kinds → Kinds
type_word_text word.Const rest = token.Keyword keyword.Const ∷ rest
type_word_text (word.Integer kind) rest = integer_word_text kind ∷ rest
type_word_text word.Void rest = token.Keyword keyword.Void ∷ rest
type_word_text (word.Typedef name) rest = token.Name name ∷ rest
type_word_text (word.Struct tag) rest = token.Keyword keyword.Struct ∷ token.Name tag ∷ rest
type_word_text (word.Enum tag) rest = token.Keyword keyword.Enum ∷ token.Name tag ∷ rest

abbrev pub words_text : List TypeWord → Kinds → Kinds
words_text [] rest = rest
words_text (w ∷ words) rest = type_word_text w (words_text words rest)

abbrev pub pointer_word_text : PointerWord → TokenKind
pointer_word_text pointer.Star = token.Punctuator punctuator.Star
pointer_word_text pointer.Const = token.Keyword keyword.Const

abbrev pub pointers_text : List PointerWord → Kinds → Kinds
pointers_text [] rest = rest
pointers_text (p ∷ pointers) rest = pointer_word_text p ∷ pointers_text pointers rest

abbrev mutual
  -- the tokens of an expression
  pub text : Written → Kinds → Kinds
  text (Named name) rest = token.Name name ∷ rest
  text (Numeral constant) rest = token.Number constant ∷ rest
  text (Character value) rest = token.Character value ∷ rest
  text (Literal bytes) rest = token.Text bytes ∷ rest
  text (Enclosed inner) rest = token.Punctuator punctuator.OpenParenthesis ∷ text inner (token.Punctuator punctuator.CloseParenthesis ∷ rest)
  text (Index array number) rest = text array (token.Punctuator punctuator.OpenBracket ∷ text number (token.Punctuator punctuator.CloseBracket ∷ rest))
  text (Call function arguments) rest =
      text function (token.Punctuator punctuator.OpenParenthesis ∷ listed arguments (token.Punctuator punctuator.CloseParenthesis ∷ rest))
  text (Member object name) rest = text object (token.Punctuator punctuator.Dot ∷ token.Name name ∷ rest)
  text (Arrow pointer name) rest = text pointer (token.Punctuator punctuator.Arrow ∷ token.Name name ∷ rest)
  text (StepAfter step object) rest = text object (token.Punctuator (step_punctuator step) ∷ rest)
  text (StepBefore step object) rest = token.Punctuator (step_punctuator step) ∷ text object rest
  text (Prefix operator operand) rest = token.Punctuator (prefix_punctuator operator) ∷ text operand rest
  text (SizeOf operand) rest = token.Keyword keyword.Sizeof ∷ text operand rest
  text (SizeOfType words pointers bounds) rest =
      token.Keyword keyword.Sizeof ∷ token.Punctuator punctuator.OpenParenthesis
      ∷ words_text words (pointers_text pointers (bounds_text bounds (token.Punctuator punctuator.CloseParenthesis ∷ rest)))
  text (Cast words pointers bounds operand) rest =
      token.Punctuator punctuator.OpenParenthesis ∷ words_text words
      (pointers_text pointers (bounds_text bounds (token.Punctuator punctuator.CloseParenthesis ∷ text operand rest)))
  text (Infix operator left right) rest = text left (token.Punctuator (infix_punctuator operator) ∷ text right rest)
  text (Choice test one other) rest = text test (token.Punctuator punctuator.Question ∷ text one (token.Punctuator punctuator.Colon ∷ text other rest))
  text (Assign operator object value) rest = text object (token.Punctuator (assign_punctuator operator) ∷ text value rest)
  text (Comma first second) rest = text first (token.Punctuator punctuator.Comma ∷ text second rest)

  -- expressions with commas between them
  pub listed : WrittenList → Kinds → Kinds
  listed End rest = rest
  listed (More first others) rest = text first (after_commas others rest)

  -- expressions with a comma before each
  pub after_commas : WrittenList → Kinds → Kinds
  after_commas End rest = rest
  after_commas (More first others) rest = token.Punctuator punctuator.Comma ∷ text first (after_commas others rest)

  -- expressions, each between brackets
  pub bounds_text : WrittenList → Kinds → Kinds
  bounds_text End rest = rest
  bounds_text (More first others) rest = token.Punctuator punctuator.OpenBracket
      ∷ text first (token.Punctuator punctuator.CloseBracket ∷ bounds_text others rest)

-- the tokens of a type between its parentheses
abbrev pub type_text : List TypeWord → List PointerWord → WrittenList → Kinds → Kinds
type_text words pointers bounds rest = words_text words (pointers_text pointers (bounds_text bounds rest))

-- the number of tokens of an expression
abbrev pub size : Written → ℕ
size e = length (text e [])
