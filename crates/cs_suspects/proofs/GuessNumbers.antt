-- The guesses of a suspect, one after another.
use Rattle.std.proofs.Common.{◌≡◌, ℕ, List, [], ◌∷◌, ◌++◌, map, sym, ap, ◌∙◌}
use Rattle.std.specs.FinMap as finite
use Rattle.std.proofs.lemmas.List.{append-nil, append_assoc}
use Rattle.cs_terms.specs.Term.{Valuation}
use Rattle.cs_constraints.specs.Constraints.{Sets}
use Rattle.cs_state.specs.declared.asked.Asked.{Asked}
use Rattle.cs_state.specs.Naming.{Naming}
use Rattle.cs_state.specs.Valuations.{Guessed}
use Rattle.cs_suspect_types.specs.declared.suspect.SuspectedGuess.{SuspectedGuess}
use Rattle.cs_suspects.specs.Suspected.{IsSolution, suspected}
use Rattle.cs_suspects.specs.Solved.{IsGuessOf, AreGuessesOf}

abbrev pub Noted : Type 0
Noted = List ((ℕ × ℕ) × Asked)

abbrev asked_of : Noted → List Asked
asked_of entries = map (λ entry. entry.1) entries

-- the guesses made so far, and those that remain
abbrev pub AreMadeSoFar : Naming → Sets → Guessed → List SuspectedGuess → Noted → Type 0
AreMadeSoFar names sets guessed made rest = (v : Valuation) → IsSolution sets v
    → made ++ map (suspected names v) (asked_of rest) ≡ map (suspected names v) (finite.values guessed)

pub none_made : (names : Naming) (sets : Sets) (guessed : Guessed) (made : List SuspectedGuess) (rest : Noted) → made ≡ []
    → rest ≡ finite.entries guessed → AreMadeSoFar names sets guessed made rest
none_made names sets guessed made rest none all v solution =
    let first = ap (λ (it : List SuspectedGuess). it ++ map (suspected names v) (asked_of rest)) none in
    first ∙ ap (λ (it : Noted). map (suspected names v) (asked_of it)) all

pub one_made : (names : Naming) (sets : Sets) (guessed : Guessed) (made after : List SuspectedGuess) (entry : (ℕ × ℕ) × Asked) (here rest : Noted)
    (guess : SuspectedGuess) → here ≡ entry ∷ rest → after ≡ made ++ guess ∷ [] → IsGuessOf names sets entry.1 guess
    → AreMadeSoFar names sets guessed made here
    → AreMadeSoFar names sets guessed after rest
one_made names sets guessed made after entry here rest guess next more is so_far v solution =
    let others = map (suspected names v) (asked_of rest) in
    let moved : (made ++ guess ∷ []) ++ others ≡ made ++ guess ∷ others = append_assoc made (guess ∷ []) others in
    ap (λ (it : List SuspectedGuess). it ++ others) more ∙ moved ∙ ap (λ (it : SuspectedGuess). made ++ it ∷ others) (is v solution)
    ∙ ap (λ (it : Noted). made ++ map (suspected names v) (asked_of it)) (sym next) ∙ so_far v solution

pub all_made : (names : Naming) (sets : Sets) (guessed : Guessed) (made : List SuspectedGuess) (rest : Noted) → rest ≡ []
    → AreMadeSoFar names sets guessed made rest → AreGuessesOf names sets guessed made
all_made names sets guessed made rest none so_far v solution =
    sym (append-nil made) ∙ ap (λ (it : Noted). made ++ map (suspected names v) (asked_of it)) (sym none) ∙ so_far v solution
