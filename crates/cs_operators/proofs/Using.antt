-- The use of a call's result: for the contract of `use_result`.
use Rattle.std.proofs.Common.{◌≡◌, ◌≢◌, ℤ, pos, Bool, true, false, List, Option, None, Some, Result, Ok, Err, slice_get, if◌then◌else◌}
use Rattle.std.proofs.Common.{refl}
use Rattle.cs_ast.specs.declared.place.Place.{Place}
use Rattle.cs_ast.specs.TypedProgram.{TypedProgram}
use Rattle.cs_terms.specs.Term.{Valuation, value_of}
use Rattle.cs_constraints.specs.Constraints.{Fits}
use Rattle.cs_regions.specs.declared.base.Base.{Base}
use Rattle.cs_events.specs.Objects.{NullCell}
use Rattle.cs_events.specs.Acts.{Act, Goes}
use Rattle.cs_meaning.specs.Expressions.{use_result}
use Rattle.cs_cfg.specs.Graph.{Point, Code}
use Rattle.cs_cfg.specs.Working.{CodeState}
use Rattle.cs_store.specs.declared.value.Value.{Value}
use Rattle.cs_store.specs.declared.value.Value.TheVariants as value
use Rattle.cs_state.specs.declared.state.State.{State}
use Rattle.cs_state.specs.declared.temporary.Temporary.{Temporary}
use Rattle.cs_state.specs.declared.temporary.Temporary.TheVariants as temporary
use Rattle.cs_state.specs.Cells.{Blocks, block_of, is_there, pointer_to, cell_of, operand_of}
use Rattle.cs_state.specs.Naming.{Naming}
use Rattle.cs_progress.specs.declared.pause.Pause.{Pause}
use Rattle.cs_progress.specs.declared.progress.Progress.{Progress}
use Rattle.cs_progress.specs.Acting.{Passes, IsNamed}
use Rattle.cs_progress.specs.Computing.{Computes}
use Rattle.cs_progress.proofs.Looks.{leads_same}
use Rattle.cs_progress.proofs.Composing.{leads_on, waits_on}
use Rattle.cs_operators.proofs.Checks.{is_never_set}
use Rattle.cs_operators.proofs.Computed.{stands}

named_set : (base : Option Base) (offset : ℤ) → base ≢ None → is_never_set (pointer_to base offset) ≡ false
named_set None offset named = absurd (named refl)
named_set (Some base) offset named = refl

start_set : (there : Bool) (base : Option Base) (offset : ℤ) → base ≢ None
    → is_never_set (if there then pointer_to base offset else NullCell) ≡ false
start_set true base offset named = named_set base offset named
start_set false base offset named = refl

-- whether a value was never set
abbrev pub is_unset : Value → Bool
is_unset value.Unset = true
is_unset (value.Number term) = false
is_unset value.Null = false
is_unset (value.At base offset) = false
is_unset (value.Start base offset) = false

pub set_else : (given : Value) → (given ≡ value.Unset → ⊥) → is_unset given ≡ false
set_else (value.Number term) never = refl
set_else value.Null never = refl
set_else (value.At base offset) never = refl
set_else (value.Start base offset) never = refl
set_else value.Unset never = absurd (never refl)

-- a scalar was never set exactly if its value is unset
pub never_set : (bases : List Base) (blocks : Blocks) (v : Valuation) (given : Value) → IsNamed bases given
    → is_never_set (cell_of bases blocks v given) ≡ is_unset given
never_set bases blocks v (value.Number term) named = refl
never_set bases blocks v value.Null named = refl
never_set bases blocks v (value.At base offset) named = named_set (slice_get bases base) (value_of v offset) named
never_set bases blocks v (value.Start base offset) named =
    start_set (is_there v (block_of blocks base)) (slice_get bases base) (pos offset) named
never_set bases blocks v value.Unset named = refl

-- an operand that isn't a scalar isn't checked
pub other_use : (bases : List Base) (blocks : Blocks) (v : Valuation) (at : Place) (operand : Temporary) (m : CodeState)
    → ((given : Value) → operand ≡ temporary.Scalar given → ⊥) → use_result at (operand_of bases blocks v operand) m ≡ Goes m
other_use bases blocks v at (temporary.Scalar given) m never = absurd (never given refl)
other_use bases blocks v at (temporary.Whole values) m never = refl
other_use bases blocks v at temporary.Nothing m never = refl

-- an operation that only checks doesn't change the state
pub checks_alone : (code : Code) (names : Naming) (program : TypedProgram) (state : State) {T : Type 0} (earlier later : Progress)
    (answer : Result T Pause) (act : CodeState → Act CodeState) (part : Valuation → Act CodeState → Act CodeState)
    → ((todo : Point) (v : Valuation) → Fits v state.constraints
    → act (stands code names program state todo v) ≡ part v (Goes (stands code names program state todo v)))
    → Passes names.bases state earlier later answer part → Computes code names program state state earlier later answer act
checks_alone code names program state {T} earlier later answer act part same passes = by_case answer passes
  where
    by_case : (r : Result T Pause) → Passes names.bases state earlier later r part → Computes code names program state state earlier later r act
    by_case (Ok done) passes = record {
      done = λ todo cells v fits.
          let goes = Goes (stands code names program state todo v) in
          leads_on cells _ _ _ _ (part v goes) goes (leads_same cells _ _ _ (same todo v fits)) (passes.through cells v fits goes);
      waits = tt;
    }
    by_case (Err why) passes = record {
      done = tt;
      waits = λ waits todo cells v fits.
          let goes = Goes (stands code names program state todo v) in
          waits_on cells _ _ _ (part v goes) names.bases _ v _ (leads_same cells _ _ _ (same todo v fits)) (passes.waits waits goes cells v fits);
    }

-- and neither does one that does nothing
pub checks_nothing : (code : Code) (names : Naming) (program : TypedProgram) (state : State) (progress : Progress) (act : CodeState → Act CodeState)
    → ((todo : Point) (v : Valuation) → act (stands code names program state todo v) ≡ Goes (stands code names program state todo v))
    → Computes {T = Unit {0}} code names program state state progress progress (Ok tt) act
checks_nothing code names program state progress act same =
    checks_alone code names program state progress progress (Ok tt) act (λ v act. act) (λ todo v fits. same todo v)
    (record { through = λ cells v fits act. leads_same cells _ act act refl; waits = tt })
