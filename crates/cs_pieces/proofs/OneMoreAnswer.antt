-- Acts that use one more answer: for the contract of `find`.
use Rattle.std.proofs.Common.{◌≡◌, ℤ, List, [], ◌∷◌, ◌++◌, refl, ap, ◌∙◌, subst, sym}
use Rattle.cs_inputs.specs.declared.path.Path.{Path}
use Rattle.cs_ast.specs.declared.place.Place.{Place}
use Rattle.cs_events.specs.declared.input.InputKind.{InputKind}
use Rattle.cs_events.specs.declared.operation.Operation.{Operation}
use Rattle.cs_events.specs.Objects.{Cell}
use Rattle.cs_events.specs.Operations.{is_true}
use Rattle.cs_events.specs.Acts.{Act, Goes, Stops, Reads, Asks, Allocates, Reaches, Touches}
use Rattle.cs_event_runs.specs.Left.{left_of}
use Rattle.cs_event_runs.proofs.Lefts.{left_after}
use Rattle.cs_cfg.specs.Working.{CodeState}
use Rattle.cs_progress.specs.Acting.{UsesAll}

module _ (cells : Path → InputKind → Cell) where
  -- without answers all are used
  pub uses_none : (act : Act CodeState) → UsesAll cells [] act
  unfolding UsesAll
  uses_none (Goes next) = refl
  uses_none (Stops outcome) = refl
  uses_none (Reads path kind onward) = uses_none (onward (cells path kind))
  uses_none (Touches touch act) = uses_none act
  uses_none (Asks at operation onward) = tt
  uses_none (Allocates at path onward) = tt
  uses_none (Reaches at object offset act) = tt

  -- answers are used one after the other
  uses_after : (answers more : List ℤ) (act : Act CodeState) → UsesAll cells answers act → UsesAll cells more (left_of cells answers act)
      → UsesAll cells (answers ++ more) act
  unfolding UsesAll left_of
  uses_after answers more (Goes next) uses onward = subst (λ (given : List ℤ). given ++ more ≡ []) (sym uses) onward
  uses_after answers more (Stops outcome) uses onward = subst (λ (given : List ℤ). given ++ more ≡ []) (sym uses) onward
  uses_after answers more (Reads path kind next) uses onward = uses_after answers more (next (cells path kind)) uses onward
  uses_after answers more (Touches touch act) uses onward = uses_after answers more act uses onward
  uses_after [] more (Asks at operation next) uses onward = onward
  uses_after [] more (Allocates at path next) uses onward = onward
  uses_after [] more (Reaches at object offset act) uses onward = onward
  uses_after (answer ∷ answers) more (Asks at operation next) uses onward = uses_after answers more (next answer) uses onward
  uses_after (answer ∷ answers) more (Allocates at path next) uses onward = uses_after answers more (next (is_true answer)) uses onward
  uses_after (answer ∷ answers) more (Reaches at object offset act) uses onward = uses_after answers more act uses onward

  module _ (answers : List ℤ) (number : ℤ) (act : Act CodeState) (at : Place) (operation : Operation) (next : ℤ → Act CodeState)
      (asks : left_of cells answers act ≡ Asks at operation next) where
    -- an answer to the first operation that remains is used
    pub uses_one : UsesAll cells answers act → UsesAll cells (answers ++ number ∷ []) act
    unfolding UsesAll
    uses_one uses =
        uses_after answers (number ∷ []) act uses
        (subst (UsesAll cells (number ∷ [])) (sym asks) (uses_none (next number)))

    -- and what follows this operation remains
    pub left_of_one : left_of cells (answers ++ number ∷ []) act ≡ left_of cells [] (next number)
    unfolding left_of
    left_of_one = left_after cells answers (number ∷ []) act ∙ ap (left_of cells (number ∷ [])) asks
