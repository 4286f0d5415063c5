-- How writes change what a state represents: for the contracts of `push`, `count_visit` and `narrowed`.
use Rattle.std.proofs.Common.{◌≡◌, ℕ, List, [], ◌∷◌, ◌++◌, map, refl, sym, ap, ◌∙◌}
use Rattle.std.specs.Prelude.{reverse, slice_set}
use Rattle.cs_constraints.specs.Constraints.{Sets}
use Rattle.std.proofs.lemmas.List.{reverse-append, map-append}
use Rattle.cs_meaning.specs.Machine.{Operand, with_stack}
use Rattle.cs_state.specs.declared.state.State.{State}
use Rattle.cs_state.specs.declared.temporary.Temporary.{Temporary}
use Rattle.cs_state.specs.Cells.{operand_of}
use Rattle.cs_state.specs.Meaning.{meaning}
use Rattle.cs_state.specs.MeaningOfWrites.{MeansPushed, MeansVisited, MeansTheSame}
use Rattle.cs_state.specs.Writes.{with_temporaries, with_visits, with_constraints}

newest_first : {A B : Type 0} (f : A → B) (xs : List A) (x : A) → reverse (map f (xs ++ x ∷ [])) ≡ f x ∷ reverse (map f xs)
newest_first f xs x = ap reverse (map-append f xs (x ∷ [])) ∙ reverse-append (map f xs) (f x ∷ [])

pub pushed : (temporary : Temporary) (state after : State) → after ≡ with_temporaries (state.frame.temporaries ++ temporary ∷ []) state
    → MeansPushed temporary state after
pushed temporary state after is code names program valuation =
    ap (λ (s : State). meaning code names program s valuation) is
    ∙ ap (λ (stack : List Operand). with_stack stack (meaning code names program state valuation))
    (newest_first (operand_of names.bases state.blocks valuation) state.frame.temporaries temporary)

pub visited : (counted_point count : ℕ) (state after : State) → after ≡ with_visits (slice_set state.frame.visits counted_point count) state
    → MeansVisited counted_point count state after
visited counted_point count state after is code names program valuation = ap (λ (s : State). meaning code names program s valuation) is

pub narrowed : (sets : Sets) (state after : State) → after ≡ with_constraints sets state → MeansTheSame state after
narrowed sets state after is code names program valuation = ap (λ (s : State). meaning code names program s valuation) is
