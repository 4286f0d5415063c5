-- States that differ in their position: what they share, and that states with pointers to locals only remain such. For the contracts of steps.
use Rattle.std.proofs.Common.{◌≡◌, ℕ, Bool, List, [], take, refl, sym, ◌∙◌, subst}
use Rattle.std.specs.Prelude.{Option, None, Some}
use Rattle.std.specs.List.{All}
use Rattle.std.proofs.lemmas.List.Elements.{All-nil, All-take}
use Rattle.std.proofs.lemmas.Option.{same_Some}
use Rattle.cs_ast.specs.TypedProgram.{TypedProgram}
use Rattle.cs_cfg.specs.declared.code.Spot.{Spot}
use Rattle.cs_cfg.specs.Graph.{BlockEnd, Jump, Branch, Switch, Return, Finish}
use Rattle.cs_regions.specs.declared.base.Base.{Base}
use Rattle.cs_state.specs.declared.state.State.{State}
use Rattle.cs_state.specs.declared.temporary.Temporary.{Temporary}
use Rattle.cs_state.specs.declared.temporary.Temporary.TheVariants as temporary
use Rattle.cs_state.specs.Writes.{at_spot, with_answers, with_result, with_temporaries}
use Rattle.cs_store.specs.declared.value.Value.{Value}
use Rattle.cs_cfg.specs.IntegerCode.{count_of_locals}
use Rattle.cs_progress.specs.Leaving.{IsReturned}
use Rattle.cs_progress.specs.Locals.{PointToLocals, IsIn, AreIn, IsOver, HasLocalsAlone, PointsToLocal}
use Rattle.cs_progress.specs.Stepping.{KeepsKnown, IsCutTo, IsCutForEnd}
use Rattle.cs_progress.proofs.KeptLocals.{locals_kept}

pub knows_on : (one two three : State) → KeepsKnown one two → KeepsKnown two three → KeepsKnown one three
knows_on one two three first second = record {
  model = second.model ∙ first.model;
  constraints = second.constraints ∙ first.constraints;
  counters = second.counters ∙ first.counters;
  asked = second.asked ∙ first.asked;
  phase = second.phase ∙ first.phase;
  blocks = second.blocks ∙ first.blocks;
}

pub knows_cut : (temporaries : List Temporary) (before after : State) → after ≡ with_temporaries temporaries before → KeepsKnown before after
knows_cut temporaries before after is =
    subst (KeepsKnown before) (sym is) (record { model = refl; constraints = refl; counters = refl; asked = refl; phase = refl; blocks = refl })

pub knows_moved : (spot : Spot) (before after : State) → after ≡ at_spot spot before → KeepsKnown before after
knows_moved spot before after is =
    subst (KeepsKnown before) (sym is) (record { model = refl; constraints = refl; counters = refl; asked = refl; phase = refl; blocks = refl })

pub knows_returned : (result : Option Value) (before after : State) → after ≡ with_result result before → KeepsKnown before after
knows_returned result before after is =
    subst (KeepsKnown before) (sym is) (record { model = refl; constraints = refl; counters = refl; asked = refl; phase = refl; blocks = refl })

pub knows_answered : (before state : State) → KeepsKnown before state → KeepsKnown before (with_answers [] state)
knows_answered before state knows =
    record {
      model = knows.model;
      constraints = knows.constraints;
      counters = knows.counters;
      asked = knows.asked;
      phase = knows.phase;
      blocks = knows.blocks;
    }

module _ (program : TypedProgram) (bases : List Base) (known : ℕ → Bool) where
  -- a frame that continues in its function
  pub locals_moved : (spot : Spot) (state : State) → spot.function ≡ state.frame.spot.function → HasLocalsAlone program bases known state
      → HasLocalsAlone program bases known (at_spot spot state)
  locals_moved spot state same have = record {
    callers = have.callers;
    answers = have.answers;
    temporaries = subst (λ function. All (PointToLocals bases known state.frame.number (count_of_locals program function)) state.frame.temporaries)
        (sym same) have.temporaries;
    stored = λ base offset value held. subst (λ function. PointsToLocal bases known state.frame.number (count_of_locals program function) value)
        (sym same) (have.stored base offset value held);
    filled = have.filled;
    result = λ value is. subst (λ function. PointsToLocal bases known state.frame.number (count_of_locals program function) value)
        (sym same) (have.result value is);
    read = have.read;
  }

  -- an operation that is done
  pub locals_answered : (state : State) → HasLocalsAlone program bases known state → HasLocalsAlone program bases known (with_answers [] state)
  locals_answered state have = record {
    callers = have.callers;
    answers = All-nil (IsOver known);
    temporaries = have.temporaries;
    stored = have.stored;
    filled = have.filled;
    result = have.result;
    read = have.read;
  }

  -- the entry has returned a value of its frame
  pub locals_returned : (given : Temporary) (result : Option Value) (state : State) → IsReturned given result → AreIn program bases known state.frame given
      → HasLocalsAlone program bases known state → HasLocalsAlone program bases known (with_result result state)
  locals_returned given result state is inside have = record {
    callers = have.callers;
    answers = have.answers;
    temporaries = have.temporaries;
    stored = have.stored;
    filled = have.filled;
    result = λ value some. by given is inside value some;
    read = have.read;
  }
    where
      by : (given : Temporary) → IsReturned given result → AreIn program bases known state.frame given → (value : Value) → result ≡ Some value
          → IsIn program bases known state.frame value
      by (temporary.Scalar one) is inside value some = subst (IsIn program bases known state.frame) (same_Some one value (sym is ∙ some)) inside
      by (temporary.Whole values) is inside value some = absurd inside
      by temporary.Nothing is inside value some = let wrong : None ≡ Some value = sym is ∙ some in cc

  -- temporaries that were dropped
  pub locals_cut : (number : ℕ) (before after : State) → IsCutTo number before after → HasLocalsAlone program bases known before
      → HasLocalsAlone program bases known after
  locals_cut number before after is have =
      locals_kept program bases known (take number before.frame.temporaries) before after is
      (All-take (AreIn program bases known before.frame) number before.frame.temporaries have.temporaries) have

  pub locals_cut_for : (end : BlockEnd) (before after : State) → IsCutForEnd end before after → HasLocalsAlone program bases known before
      → HasLocalsAlone program bases known after
  locals_cut_for (Jump block) before after is have = subst (HasLocalsAlone program bases known) (sym is) have
  locals_cut_for (Branch at temporary one other) before after is have = locals_cut _ before after is have
  locals_cut_for (Switch at temporary cases otherwise) before after is have = locals_cut _ before after is have
  locals_cut_for (Return temporary) before after is have = locals_cut _ before after is have
  locals_cut_for Finish before after is have = subst (HasLocalsAlone program bases known) (sym is) have
