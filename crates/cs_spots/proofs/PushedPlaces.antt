-- Pushing a pointer to the beginning of an object: for the contract of `name`.
use Rattle.std.proofs.Common.{◌≡◌, ℕ, pos, List, Some, slice_get, Result, Ok, Err, OnOk, subst}
use Rattle.cs_terms.specs.declared.term.Lin.{Lin}
use Rattle.cs_checker.specs.Answers.{constant}
use Rattle.cs_regions.specs.declared.base.Base.{Base}
use Rattle.cs_store.specs.declared.value.Value.TheVariants.{At}
use Rattle.cs_state.specs.declared.state.State.{State}
use Rattle.cs_state.specs.declared.temporary.Temporary.TheVariants.{Scalar}
use Rattle.cs_state.specs.MeaningOfWrites.{MeansPushed}
use Rattle.cs_progress.specs.Operands.{IsPushed, IsPlacePushed}

pub place_pushed : (bases : List Base) (base : Base) (before after : State) {T E : Type 0} (answer : Result T E) (number : ℕ) (term : Lin)
    → term ≡ constant (pos 0) → slice_get bases number ≡ Some base → OnOk answer (IsPushed (Scalar (At number term)) before after)
    → OnOk answer (MeansPushed (Scalar (At number term)) before after) → OnOk answer (IsPlacePushed bases base before after)
place_pushed bases base before after (Ok x) number term is named pushed means = record {
  number = number;
  named = named;
  pushed = subst (λ (t : Lin). IsPushed (Scalar (At number t)) before after) is pushed;
  means = subst (λ (t : Lin). MeansPushed (Scalar (At number t)) before after) is means;
}
place_pushed bases base before after (Err why) number term is named pushed means = tt
