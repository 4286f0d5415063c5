-- Two pointers that have to point into the same object: for the contracts of `related` and `equality`.
use Rattle.std.proofs.Common.{◌≡◌, ◌≢◌, ℤ, pos, Bool, true, false, cond, ◌&&◌, List, Option, None, Some, option_map, slice_get, refl, sym, ap}
use Rattle.std.proofs.Common.{◌∙◌, subst}
use Rattle.std.specs.Prelude.{is_some, unwrap_or}
use Rattle.std.specs.Option.{ok_or}
use Rattle.cs_ast.specs.declared.place.Place.{Place}
use Rattle.cs_ast.specs.declared.typed.operator.CmpOp.{CmpOp}
use Rattle.cs_terms.specs.declared.term.Lin.{Lin}
use Rattle.cs_terms.specs.Term.{Valuation, value_of}
use Rattle.cs_constraints.specs.Constraints.{Fits}
use Rattle.cs_checker.specs.Answers.{constant}
use Rattle.cs_checker.specs.declared.subject.Subject.TheVariants.{Pair}
use Rattle.cs_events.specs.Objects.{Cell, NumberCell, NullCell, PointerCell, UnsetCell}
use Rattle.cs_events.specs.Acts.{Act, Asks}
use Rattle.cs_events.specs.declared.event.Label.TheVariants as label
use Rattle.cs_events.specs.declared.operation.Operation.TheVariants as operation
use Rattle.cs_events.specs.Operations.{truth_number}
use Rattle.cs_meaning.specs.Access.{shows_then}
use Rattle.cs_eval.specs.declared.question.Tested.TheVariants.{Truth}
use Rattle.cs_eval.specs.Questions.{label_of, holds_for}
use Rattle.cs_meaning.specs.Operators as operators
use Rattle.cs_cfg.specs.Working.{CodeState}
use Rattle.cs_regions.specs.declared.base.Base.{Base}
use Rattle.cs_state.specs.declared.state.State.{State}
use Rattle.cs_state.specs.Cells.{pointer_to}
use Rattle.cs_progress.specs.declared.pause.Pause.TheVariants as pause
use Rattle.cs_progress.specs.declared.progress.Progress.{Progress}
use Rattle.cs_progress.specs.declared.pointers.Seen.{Seen}
use Rattle.cs_progress.specs.declared.pointers.Seen.TheVariants.{Null, At, Other}
use Rattle.cs_progress.specs.Seeing.{IsSeen, IsSeenNamed}
use Rattle.cs_progress.specs.Acting.{Leads, GetsThrough, CarriesOut}
use Rattle.cs_progress.specs.Answering.{answers_left}
use Rattle.cs_progress.proofs.Carrying.{no_wait}
use Rattle.cs_operators.specs.Asking.{ChecksFor}
use Rattle.cs_operators.specs.Pointing.{both_values, equality, related}
use Rattle.cs_operators.proofs.Tests.{truth_test}
use Rattle.cs_operators.proofs.Checks.{is_there, pair_check}

-- whether the inspection saw null, and whether a cell is null
abbrev pub is_null : Seen → Bool
is_null Null = true
is_null (At base offset) = false
is_null Other = false

pub some_first : (left right : Seen) → (left ≡ Null → ⊥) → (is_null left && is_null right) ≡ false
some_first Null right some = absurd (some refl)
some_first (At base offset) right some = refl
some_first Other right some = refl

pub some_second : (left right : Seen) → (right ≡ Null → ⊥) → (is_null left && is_null right) ≡ false
some_second left Null some = absurd (some refl)
some_second Null (At base offset) some = refl
some_second Null Other some = refl
some_second (At base offset) right some = refl
some_second Other right some = refl

is_null_cell : Cell → Bool
is_null_cell NullCell = true
is_null_cell (NumberCell n) = false
is_null_cell (PointerCell object offset) = false
is_null_cell UnsetCell = false

null_seen : (bases : List Base) (v : Valuation) (seen : Seen) (cell : Cell) → IsSeenNamed bases seen → IsSeen bases v seen cell
    → is_null_cell cell ≡ is_null seen
unfolding is_null_cell
null_seen bases v Null cell named seen = ap is_null_cell seen
null_seen bases v (At base offset) cell named seen = ap is_null_cell seen ∙ by (slice_get bases base) named
  where
    by : (found : Option Base) → found ≢ None → is_null_cell (pointer_to found (value_of v offset)) ≡ false
    by None named = absurd (named refl)
    by (Some base) named = refl
null_seen bases v Other (NumberCell n) named seen = refl
null_seen bases v Other NullCell named seen = absurd seen
null_seen bases v Other (PointerCell object offset) named seen = absurd seen
null_seen bases v Other UnsetCell named seen = refl

related_cells : (one other : Cell)
    → operators.related one other ≡ cond {A = Option (ℤ × ℤ)} (is_null_cell one && is_null_cell other) (Some (pos 0, pos 0))
    (operators.in_one_object one other)
unfolding is_null_cell
related_cells NullCell NullCell = refl
related_cells NullCell (NumberCell n) = refl
related_cells NullCell (PointerCell object offset) = refl
related_cells NullCell UnsetCell = refl
related_cells (NumberCell n) other = refl
related_cells (PointerCell object offset) other = refl
related_cells UnsetCell other = refl

module _ (bases : List Base) (v : Valuation) (left right : Seen) (one other : Cell) (left_named : IsSeenNamed bases left)
    (right_named : IsSeenNamed bases right) (left_is : IsSeen bases v left one) (right_is : IsSeen bases v right other) where
  cells_null : (is_null_cell one && is_null_cell other) ≡ (is_null left && is_null right)
  cells_null = λ i. null_seen bases v left one left_named left_is i && null_seen bases v right other right_named right_is i

  -- unless both are null, there are offsets only within one object
  pub related_apart : (is_null left && is_null right) ≡ false → operators.related one other ≡ operators.in_one_object one other
  related_apart apart =
      related_cells one other
      ∙ ap (λ (both : Bool). cond {A = Option (ℤ × ℤ)} both (Some (pos 0, pos 0)) (operators.in_one_object one other)) (cells_null ∙ apart)

-- the result if two pointers don't point into one object
pub equality_apart : (at : Place) (operator : CmpOp) (v : Valuation) (one other : Cell) (holds : Bool) (onward : ℤ → Act CodeState)
    → operators.in_one_object one other ≡ None → operators.equality_of operator (operators.both_null one other) ≡ holds
    → equality at operator one other onward
    ≡ Asks at (operation.Show (label_of Truth (holds_for Truth (value_of v (constant (truth_number holds)))))) (λ answer. onward (truth_number holds))
equality_apart at operator v one other holds onward none is =
    ap (λ (found : Option (ℤ × ℤ)). operators.equality at operator (operators.both_null one other) found onward) none
    ∙ ap (λ (b : Bool). shows_then at (label.Truth b) (onward (truth_number b))) is
    ∙ truth_test at Truth v holds (onward (truth_number holds))

module _ (at : Place) (state : State) (one other : Valuation → Cell) (found : Option (Lin × Lin))
    (is : (v : Valuation) → Fits v state.constraints → operators.related (one v) (other v) ≡ option_map (λ found. both_values found v) found) where
  -- the check determines whether there are offsets
  pub relation_check : (same : Bool) → same ≡ is_some found
      → ChecksFor state (Pair same) at (λ v. operators.one_object at (operators.related (one v) (other v)))
  relation_check same some v fits =
      pair_check at v same (operators.related (one v) (other v)) (ap is_there (is v fits) ∙ by found ∙ sym some)
    where
      by : (found : Option (Lin × Lin)) → is_there (option_map (λ found. both_values found v) found) ≡ is_some found
      by None = refl
      by (Some offsets) = refl

  -- the act continues with the offsets that were found
  pub offsets_given : (bases : List Base) (before after : Progress)
      → GetsThrough state before.used after.used (λ v. operators.one_object at (operators.related (one v) (other v)))
      → CarriesOut bases state before after (ok_or found pause.Memory) (λ v. related at (one v) (other v)) both_values
  offsets_given bases before after through = by found is
    where
      by : (found : Option (Lin × Lin))
          → ((v : Valuation) → Fits v state.constraints → operators.related (one v) (other v) ≡ option_map (λ found. both_values found v) found)
          → CarriesOut bases state before after (ok_or found pause.Memory) (λ v. related at (one v) (other v)) both_values
      by None is = record { through = tt; waits = λ waits. no_wait pause.Memory refl waits }
      by (Some offsets) is = record {
        through = λ cells v fits onward.
            let answers = answers_left state before.used v in
            let others = answers_left state after.used v in
            subst (λ (given : ℤ × ℤ). Leads cells answers others (related at (one v) (other v) onward) (onward given))
            (ap (λ (found : Option (ℤ × ℤ)). unwrap_or found operators.NO_OFFSETS) (is v fits))
            (through cells v fits (onward (unwrap_or (operators.related (one v) (other v)) operators.NO_OFFSETS)));
        waits = tt;
      }
