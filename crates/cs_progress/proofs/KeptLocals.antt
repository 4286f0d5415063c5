-- States with pointers to locals only remain such if only their temporaries change, and their pointers have names: for the contracts of operations.
use Rattle.std.proofs.Common.{◌≡◌, ℕ, Bool, List, [], ◌∷◌, ◌++◌, length, All, Result, IfErr, OnOk, refl, sym, ◌∙◌, subst}
use Rattle.std.proofs.lemmas.List.Elements.{All-take, All-push, All-weaker}
use Rattle.std.proofs.lemmas.Option.{none-some}
use Rattle.std.proofs.lemmas.Result.{IfErr-weaker, on_ok_weaker}
use Rattle.std.specs.Prelude.{◌-◌}
use Rattle.cs_ast.specs.TypedProgram.{TypedProgram}
use Rattle.cs_regions.specs.declared.base.Base.{Base}
use Rattle.cs_regions.specs.declared.base.Base.TheVariants.{Local}
use Rattle.cs_store.specs.declared.value.Value.{Value}
use Rattle.cs_store.specs.declared.value.Value.TheVariants as value
use Rattle.cs_state.specs.declared.state.State.{State}
use Rattle.cs_state.specs.declared.temporary.Temporary.{Temporary}
use Rattle.cs_state.specs.declared.temporary.Temporary.TheVariants as temporary
use Rattle.cs_state.specs.Writes.{with_temporaries}
use Rattle.cs_progress.specs.declared.pause.Pause.{Pause}
use Rattle.cs_progress.specs.declared.pause.Pause.TheVariants as pause
use Rattle.cs_progress.specs.Acting.{IsNamed}
use Rattle.cs_progress.specs.Computing.{IsNamedTemporary, HaveNames}
use Rattle.cs_progress.specs.Locals.{PointsToLocal, PointToLocals, AreIn, HasLocalsAlone, MayAllBeIn}
use Rattle.cs_progress.specs.Operands.{IsDropped, IsReplaced, IsPushed, without_newest}
use Rattle.cs_progress.specs.Stepping.{StaysInFrame, KeepsLocals, WaitsUnchanged}
use Rattle.cs_progress.proofs.Carrying.{no_wait}

-- only the temporaries have changed
pub stays : (temporaries : List Temporary) (before after : State) → after ≡ with_temporaries temporaries before → StaysInFrame before after
stays temporaries before after is = subst (StaysInFrame before) (sym is) (record {
  known = record { model = refl; constraints = refl; counters = refl; asked = refl; phase = refl; blocks = refl };
  answers = refl;
  callers = refl;
  number = refl;
  spot = refl;
})

-- a pointer to a local of the frame has a name
pub named_local : (bases : List Base) (known : ℕ → Bool) (frame count : ℕ) (given : Value) → PointsToLocal bases known frame count given
    → IsNamed bases given
named_local bases known frame count (value.Number term) points = tt
named_local bases known frame count value.Null points = tt
named_local bases known frame count (value.At base offset) points =
    λ none. none-some (Local frame points.0.declaration) (sym none ∙ points.0.named)
named_local bases known frame count (value.Start base offset) points = absurd points
named_local bases known frame count value.Unset points = tt

named_locals : (bases : List Base) (known : ℕ → Bool) (frame count : ℕ) (given : Temporary) → PointToLocals bases known frame count given
    → IsNamedTemporary bases given
named_locals bases known frame count (temporary.Scalar one) points = named_local bases known frame count one points
named_locals bases known frame count (temporary.Whole values) points = absurd points
named_locals bases known frame count temporary.Nothing points = tt

module _ (program : TypedProgram) (bases : List Base) (known : ℕ → Bool) where
  -- the pointers of all temporaries have names
  pub have_names : (state : State) → HasLocalsAlone program bases known state → HaveNames bases state
  have_names state have =
      All-weaker (AreIn program bases known state.frame) (IsNamedTemporary bases) (named_locals bases known state.frame.number _) state.frame.temporaries
      have.temporaries

  -- other temporaries that may be in the frame
  pub locals_kept : (temporaries : List Temporary) (before after : State) → after ≡ with_temporaries temporaries before
      → All (AreIn program bases known before.frame) temporaries → HasLocalsAlone program bases known before → HasLocalsAlone program bases known after
  locals_kept temporaries before after is all have = subst (HasLocalsAlone program bases known) (sym is) (record {
    callers = have.callers;
    answers = have.answers;
    temporaries = all;
    stored = have.stored;
    filled = have.filled;
    result = have.result;
    read = have.read;
  })

  pub pushed_locals : (given : Temporary) (before after : State) → AreIn program bases known before.frame given → IsPushed given before after
      → KeepsLocals program bases known before after
  pushed_locals given before after is_in is have =
      locals_kept (before.frame.temporaries ++ given ∷ []) before after is
      (All-push (AreIn program bases known before.frame) before.frame.temporaries given have.temporaries is_in) have

  pub dropped_locals : (count : ℕ) (before after : State) → IsDropped count before after → KeepsLocals program bases known before after
  dropped_locals count before after is have =
      locals_kept (without_newest count before.frame.temporaries) before after is
      (All-take (AreIn program bases known before.frame) (length before.frame.temporaries - count) before.frame.temporaries have.temporaries) have

  pub replaced_locals : (count : ℕ) (given : Temporary) (before after : State) → AreIn program bases known before.frame given
      → IsReplaced count given before after → KeepsLocals program bases known before after
  replaced_locals count given before after is_in is have =
      locals_kept (without_newest count before.frame.temporaries ++ given ∷ []) before after is
      (All-push (AreIn program bases known before.frame) (without_newest count before.frame.temporaries) given
      (All-take (AreIn program bases known before.frame) (length before.frame.temporaries - count) before.frame.temporaries have.temporaries) is_in) have

-- if one temporary replaces some, the frame keeps its position
pub replaced_stays : {T : Type 0} (answer : Result T Pause) (count : ℕ) (given : Temporary) (before after : State)
    → OnOk answer (IsReplaced count given before after) → OnOk answer (StaysInFrame before after)
replaced_stays answer count given before after =
    on_ok_weaker answer (stays (without_newest count before.frame.temporaries ++ given ∷ []) before after)

-- and pointers still point to locals only
pub replaced_keeps : {T : Type 0} (answer : Result T Pause) (count : ℕ) (given : Temporary) (before after : State) → MayAllBeIn before given
    → OnOk answer (IsReplaced count given before after)
    → OnOk answer ((program : TypedProgram) (bases : List Base) (known : ℕ → Bool) → KeepsLocals program bases known before after)
replaced_keeps answer count given before after within =
    on_ok_weaker answer (λ is program bases known have.
    replaced_locals program bases known count given before after (within program bases known have) is have)

-- an operation that never waits
pub never_waits : {T : Type 0} (before after : State) (answer : Result T Pause) → IfErr answer (λ why. why ≡ pause.Memory)
    → WaitsUnchanged before after answer
never_waits before after answer memory =
    IfErr-weaker answer (λ why. why ≡ pause.Memory) (λ why. why ≡ pause.Waits → after ≡ before) (λ why is waits. no_wait why is waits) memory
