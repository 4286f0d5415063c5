-- Which written expressions are phrases of the grammar (C11 6.5), given the typedef names, and which tokens begin one.
use Rattle.std.specs.Prelude.{◌≡◌, ℕ, suc, ◌≤◌, IsTrue, IsFalse, [], ◌++◌}
use Rattle.cs_ast.specs.RawTree.{Written, WrittenList, Named, Numeral, Character, Literal, Enclosed, Index, Call, Member, Arrow, StepAfter, StepBefore, Prefix}
use Rattle.cs_ast.specs.RawTree.{SizeOf, SizeOfType, Cast, Infix, Choice, Assign, Comma, End, More}
use Rattle.cs_ast.specs.RawHeight.{height}
use Rattle.cs_grammar.specs.TypeWords.{Names, is_among, is_type, is_pointer}
use Rattle.cs_grammar.specs.Levels.{level_of, infix_level, ASSIGN, CHOICE, INFIX, CAST, UNARY, POSTFIX}
use Rattle.cs_grammar.specs.Text.{Kinds, text}

-- an expression is allowed where one of this level is required
abbrev pub Binds : ℕ → Written → Type 0
Binds level e = level ≤ level_of e

abbrev mutual
  -- the parts of an expression are phrases of the levels that the grammar requires; no typedef name is used as an object
  pub IsWell : Names → Written → Type 0
  IsWell names (Named name) = IsFalse (is_among names name)
  IsWell names (Numeral constant) = Unit {0}
  IsWell names (Character value) = Unit {0}
  IsWell names (Literal bytes) = Unit {0}
  IsWell names (Enclosed inner) = IsWell names inner
  IsWell names (Index array number) = Binds POSTFIX array × IsWell names array × IsWell names number
  IsWell names (Call function arguments) = Binds POSTFIX function × IsWell names function × ArePhrases names ASSIGN arguments
  IsWell names (Member object name) = Binds POSTFIX object × IsWell names object
  IsWell names (Arrow pointer name) = Binds POSTFIX pointer × IsWell names pointer
  IsWell names (StepAfter step object) = Binds POSTFIX object × IsWell names object
  IsWell names (StepBefore step object) = Binds UNARY object × IsWell names object
  IsWell names (Prefix operator operand) = Binds CAST operand × IsWell names operand
  IsWell names (SizeOf operand) = Binds UNARY operand × IsWell names operand
  IsWell names (SizeOfType words pointers bounds) = IsTrue (is_type names words) × IsTrue (is_pointer pointers) × ArePhrases names CHOICE bounds
  IsWell names (Cast words pointers bounds operand) =
      IsTrue (is_type names words) × IsTrue (is_pointer pointers) × ArePhrases names CHOICE bounds × Binds CAST operand × IsWell names operand
  IsWell names (Infix operator left right) =
      Binds (infix_level operator) left × IsWell names left × Binds (suc (infix_level operator)) right × IsWell names right
  IsWell names (Choice test one other) = Binds INFIX test × IsWell names test × IsWell names one × Binds CHOICE other × IsWell names other
  IsWell names (Assign operator object value) = Binds UNARY object × IsWell names object × Binds ASSIGN value × IsWell names value
  IsWell names (Comma first second) = IsWell names first × Binds ASSIGN second × IsWell names second

  -- each of these is a phrase of the level
  pub ArePhrases : Names → ℕ → WrittenList → Type 0
  ArePhrases names level End = Unit {0}
  ArePhrases names level (More first others) = Binds level first × IsWell names first × ArePhrases names level others

-- an expression is a phrase of the level: it binds at least as tightly, and its parts do as their positions require
abbrev pub IsPhrase : Names → ℕ → Written → Type 0
IsPhrase names level e = Binds level e × IsWell names e

-- the tokens begin a phrase of the level
pub record BeginsPhrase (names : Names) (level : ℕ) (front : Kinds) : Type 0 where
  pub phrase : Written
  pub more : Kinds
  pub is_phrase : IsPhrase names level phrase
  pub spelled : text phrase [] ≡ front ++ more

-- the tokens begin a phrase of the level that is no higher than the limit
pub record BeginsLowPhrase (names : Names) (level limit : ℕ) (front : Kinds) : Type 0 where
  pub phrase : Written
  pub more : Kinds
  pub is_phrase : IsPhrase names level phrase
  pub low : height phrase ≤ limit
  pub spelled : text phrase [] ≡ front ++ more

-- the tokens are those of a phrase of the level that is no higher than the limit
pub record IsLowPhrase (names : Names) (level limit : ℕ) (front : Kinds) : Type 0 where
  pub phrase : Written
  pub is_phrase : IsPhrase names level phrase
  pub low : height phrase ≤ limit
  pub spelled : text phrase [] ≡ front
