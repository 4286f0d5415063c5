-- The answers that an operation in progress has, and those of them that it hasn't used yet.
use Rattle.std.specs.Prelude.{◌≡◌, ◌<◌, ℕ, ℤ, List, [], ◌∷◌, length, map, drop}
use Rattle.cs_terms.specs.declared.term.Lin.{Lin}
use Rattle.cs_terms.specs.Term.{Valuation, value_of}
use Rattle.cs_constraints.specs.Constraints.{Fits}
use Rattle.cs_state.specs.declared.state.State.{State}

-- the answers that aren't used yet, as numbers
abbrev pub answers_left : State → ℕ → Valuation → List ℤ
answers_left state used valuation = drop used (map (value_of valuation) state.answers)

-- the term is the next answer, and the others remain after it
abbrev pub IsNextAnswer : State → ℕ → ℕ → Lin → Type 0
IsNextAnswer state before after answer = (valuation : Valuation)
    → answers_left state before valuation ≡ value_of valuation answer ∷ answers_left state after valuation

-- this holds under each valuation that fits
abbrev pub HasNextValue : State → ℕ → ℕ → Lin → Type 0
HasNextValue state before after answer = (valuation : Valuation) → Fits valuation state.constraints
    → answers_left state before valuation ≡ value_of valuation answer ∷ answers_left state after valuation

-- there is a next answer, and the others remain after it
abbrev pub HasNextAnswer : State → ℕ → ℕ → Type 0
HasNextAnswer state before after = (answer : Lin) × IsNextAnswer state before after answer

-- a later event than what is about to be done has an answer
abbrev pub IsAnsweredLater : State → ℕ → Type 0
IsAnsweredLater state used = used < length state.answers

-- all answers are used
abbrev pub HasNoAnswer : State → ℕ → Type 0
HasNoAnswer state used = (valuation : Valuation) → answers_left state used valuation ≡ []
