-- The results that the parts of the parser return to one another: a phrase of a class, or a token with which none within the
-- limit continues.
use Rattle.std.specs.Prelude.{◌≡◌, ℕ, ◌⊎◌, Bool, true, false, List, Result, Ok, Err}
use Rattle.cs_ast.specs.declared.token.Token.{Token}
use Rattle.cs_ast.specs.declared.token.Punctuator.{Punctuator}
use Rattle.cs_ast.specs.declared.token.Punctuator.TheVariants as punctuator
use Rattle.cs_ast.specs.declared.token.TokenKind.TheVariants as token
use Rattle.cs_grammar.specs.declared.refusal.Reason.{Reason}
use Rattle.cs_ast.specs.declared.raw.statement.RawStmt.{RawStmt}
use Rattle.cs_ast.specs.RawStatementView.{statement_of}
use Rattle.cs_grammar.specs.TypeWords.{Names}
use Rattle.cs_grammar.specs.FileClasses.{Sentences}
use Rattle.cs_grammar.specs.Parsing.{Class, Took, Exactly}
use Rattle.cs_expr_parser.specs.Positions.{kind_or_end}
use Rattle.cs_expr_parser.specs.Parts.{Spells, IsRefused, is_deep}
use Rattle.cs_expr_parser.specs.declared.stop.Stop.{Stop}
use Rattle.cs_expr_parser.specs.declared.stop.Stop.TheVariants as stop
use Rattle.cs_declarator_parser.specs.declared.stop.Taken.{Taken}
use Rattle.cs_declarator_parser.specs.declared.stop.Unclosed.{Unclosed}

-- memory runs out, or a token is refused: no phrase of the class within the limit continues with it
abbrev pub Stops : Class → ℕ → List Token → ℕ → Stop → Type 0
Stops C limit tokens from stop.Memory = Unit {0}
Stops C limit tokens from (stop.Refused at reason) = IsRefused C limit tokens from at reason

-- a phrase of the class was taken that is determined by its tokens, whatever follows it
pub record IsExactly {A : Type 0} (C : Class) (view : A → C.Tree) (limit : ℕ) (tokens : List Token) (from : ℕ) (taken : Taken A) : Type 0 where
  pub height_is : taken.height ≡ C.tall (view taken.tree)
  pub spelled : Spells tokens from taken.next (C.spell (view taken.tree))
  pub exactly : Exactly C limit (view taken.tree)

-- a phrase of the class was taken before the next token; a higher phrase continues with that exactly if `deep`
pub record IsTaken {A : Type 0} (C : Class) (view : A → C.Tree) (limit : ℕ) (tokens : List Token) (from : ℕ) (deep : Bool) (taken : Taken A) :
    Type 0 where
  pub height_is : taken.height ≡ C.tall (view taken.tree)
  pub spelled : Spells tokens from taken.next (C.spell (view taken.tree))
  pub took : Took C limit (view taken.tree) (kind_or_end tokens taken.next) deep

-- the same for a phrase that may end with an expression: the reason states whether a higher phrase continues
pub record IsUnclosed {A : Type 0} (C : Class) (view : A → C.Tree) (limit : ℕ) (tokens : List Token) (from : ℕ) (taken : Unclosed A) : Type 0 where
  pub height_is : taken.height ≡ C.tall (view taken.tree)
  pub spelled : Spells tokens from taken.next (C.spell (view taken.tree))
  pub took : Took C limit (view taken.tree) (kind_or_end tokens taken.next) (is_deep taken.otherwise)

-- a phrase that its last token closes was taken, or a token is refused
abbrev pub ExactAnswers : {A : Type 0} (C : Class) → (A → C.Tree) → ℕ → List Token → ℕ → Result (Taken A) Stop → Type 0
ExactAnswers C view limit tokens from (Ok taken) = IsExactly C view limit tokens from taken
ExactAnswers C view limit tokens from (Err stop) = Stops C limit tokens from stop

-- a phrase that no higher one continues was taken, or a token is refused
abbrev pub Answers : {A : Type 0} (C : Class) → (A → C.Tree) → ℕ → List Token → ℕ → Result (Taken A) Stop → Type 0
Answers C view limit tokens from (Ok taken) = IsTaken C view limit tokens from false taken
Answers C view limit tokens from (Err stop) = Stops C limit tokens from stop

-- a statement that no higher one continues was taken, or a token is refused
abbrev pub StatementAnswers : Names → ℕ → List Token → ℕ → Result (Taken RawStmt) Stop → Type 0
StatementAnswers names = Answers (Sentences names) statement_of

-- a phrase that may end with an expression was taken, or a token is refused
abbrev pub UnclosedAnswers : {A : Type 0} (C : Class) → (A → C.Tree) → ℕ → List Token → ℕ → Result (Unclosed A) Stop → Type 0
UnclosedAnswers C view limit tokens from (Ok taken) = IsUnclosed C view limit tokens from taken
UnclosedAnswers C view limit tokens from (Err stop) = Stops C limit tokens from stop

-- an opening brace is refused after a whole phrase, since only higher phrases continue with it, or none
pub record IsBraceRefused (C : Class) (limit : ℕ) (tokens : List Token) (from at : ℕ) (reason : Reason) : Type 0 where
  pub phrase : C.Tree
  pub spelled : Spells tokens from at (C.spell phrase)
  pub brace : kind_or_end tokens at ≡ token.Punctuator punctuator.OpenBrace
  pub took : Took C limit phrase (token.Punctuator punctuator.OpenBrace) (is_deep reason)

-- the same as `Stops`, or an opening brace is refused after a whole phrase
abbrev pub StopsOrBrace : Class → ℕ → List Token → ℕ → Stop → Type 0
StopsOrBrace C limit tokens from (stop.Refused at reason) = IsRefused C limit tokens from at reason ⊎ IsBraceRefused C limit tokens from at reason
StopsOrBrace C limit tokens from other = Stops C limit tokens from other

-- a phrase that no higher one continues was taken, or a token is refused, which may be a brace after a whole phrase
abbrev pub BraceAnswers : {A : Type 0} (C : Class) → (A → C.Tree) → ℕ → List Token → ℕ → Result (Taken A) Stop → Type 0
BraceAnswers C view limit tokens from (Ok taken) = IsTaken C view limit tokens from false taken
BraceAnswers C view limit tokens from (Err stop) = StopsOrBrace C limit tokens from stop

-- the punctuator closes expressions of each level
abbrev pub closes : Punctuator → Bool
closes punctuator.CloseParenthesis = true
closes punctuator.CloseBracket = true
closes punctuator.Semicolon = true
closes punctuator.Colon = true
closes other = false
