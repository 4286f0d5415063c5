-- What a part of the parser took or refused lies within the tokens, and what it took is within the limit.
use Rattle.std.specs.Prelude.{◌≡◌, ℕ, ◌+◌, ◌≤◌, ◌<◌, List, length, Option, Some, None, Result, Ok, Err}
use Rattle.cs_ast.specs.declared.token.Token.{Token}
use Rattle.cs_ast.specs.declared.raw.expression.RawExpr.{RawExpr}
use Rattle.cs_expr_parser.specs.declared.answer.Phrase.{Phrase}
use Rattle.cs_expr_parser.specs.declared.stop.Stop.{Stop}
use Rattle.cs_expr_parser.specs.declared.stop.Stop.TheVariants as stop
use Rattle.cs_declarator_parser.specs.declared.stop.Taken.{Taken}
use Rattle.cs_declarator_parser.specs.declared.stop.Unclosed.{Unclosed}
use Rattle.cs_declarator_parser.specs.declared.specs.NextWord.{NextWord}

-- the token that was refused lies within the tokens, or is the end of input
abbrev pub StopsInside : List Token → ℕ → Stop → Type 0
StopsInside tokens from (stop.Refused at reason) = (from ≤ at) × (at ≤ length tokens)
StopsInside tokens from stop.Memory = Unit {0}

-- the token with this index is refused
abbrev pub Refuses : ℕ → Stop → Type 0
Refuses number (stop.Refused at reason) = at ≡ number
Refuses number other = ⊥

-- at least one token was taken, and the tree is no higher than the limit
abbrev pub IsBounded : {A : Type 0} → ℕ → List Token → ℕ → Result (Taken A) Stop → Type 0
IsBounded limit tokens from (Ok taken) = (from < taken.next) × (taken.next ≤ length tokens) × (taken.height ≤ limit)
IsBounded limit tokens from (Err answer) = StopsInside tokens from answer

-- the same, but no token has to be taken
abbrev pub IsRowBounded : {A : Type 0} → ℕ → List Token → ℕ → Result (Taken A) Stop → Type 0
IsRowBounded limit tokens from (Ok taken) = (from ≤ taken.next) × (taken.next ≤ length tokens) × (taken.height ≤ limit)
IsRowBounded limit tokens from (Err answer) = StopsInside tokens from answer

-- the same for what may end with an expression
abbrev pub IsUnclosedBounded : {A : Type 0} → ℕ → List Token → ℕ → Result (Unclosed A) Stop → Type 0
IsUnclosedBounded limit tokens from (Ok taken) = (from < taken.next) × (taken.next ≤ length tokens) × (taken.height ≤ limit)
IsUnclosedBounded limit tokens from (Err answer) = StopsInside tokens from answer

abbrev pub IsUnclosedRowBounded : {A : Type 0} → ℕ → List Token → ℕ → Result (Unclosed A) Stop → Type 0
IsUnclosedRowBounded limit tokens from (Ok taken) = (from ≤ taken.next) × (taken.next ≤ length tokens) × (taken.height ≤ limit)
IsUnclosedRowBounded limit tokens from (Err answer) = StopsInside tokens from answer

-- a word lies within the tokens and is no higher than the limit
abbrev pub IsWordInside : ℕ → List Token → ℕ → NextWord → Type 0
IsWordInside limit tokens at found = (at < found.next) × (found.next ≤ length tokens) × (found.height ≤ limit)

abbrev pub IsNextBounded : ℕ → List Token → ℕ → Result NextWord Stop → Type 0
IsNextBounded limit tokens at (Ok found) = IsWordInside limit tokens at found
IsNextBounded limit tokens at (Err answer) = StopsInside tokens at answer

-- the same, but there may be no word
abbrev pub IsWordBounded : ℕ → List Token → ℕ → Result (Option NextWord) Stop → Type 0
IsWordBounded limit tokens at (Ok (Some found)) = IsWordInside limit tokens at found
IsWordBounded limit tokens at (Ok None) = Unit {0}
IsWordBounded limit tokens at (Err answer) = StopsInside tokens at answer

-- what was taken has this height, and ends before this token
abbrev pub IsOf : {A : Type 0} → ℕ → ℕ → Taken A → Type 0
IsOf tall next taken = (taken.height ≡ tall) × (taken.next ≡ next)

-- a word has this number of tokens from an index on, and this height
abbrev pub IsWordOf : ℕ → ℕ → ℕ → NextWord → Type 0
IsWordOf many tall at found = (found.next ≡ at + many) × (found.height ≡ tall)

-- what was taken has all parts of the phrase
abbrev pub IsPhraseOf : Phrase → Unclosed RawExpr → Type 0
IsPhraseOf phrase taken = (taken.tree ≡ phrase.tree) × (taken.height ≡ phrase.height) × (taken.next ≡ phrase.next)
    × (taken.otherwise ≡ phrase.otherwise)
