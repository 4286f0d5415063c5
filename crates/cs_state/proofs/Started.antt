-- How an entry begins: for the contract of `start`.
use Rattle.std.proofs.Common.{◌≡◌, ◌<◌, ℕ, List, [], length, refl, sym, ap, ◌∙◌, subst, arith}
use Rattle.std.specs.Prelude.{Option, None, Some, is_some, slice_get, unwrap_or}
use Rattle.std.specs.FinMap as finite
use Rattle.std.proofs.Common.{true≢false}
use Rattle.cs_pmap.specs.Keys.{key_cmp}
use Rattle.cs_ranges.specs.declared.range_set.Interval.{Interval}
use Rattle.cs_types.specs.declared.data_model.DataModel.{DataModel}
use Rattle.cs_constraints.specs.Constraints.{set_of}
use Rattle.cs_store.specs.declared.value.Value.{Value}
use Rattle.cs_store.specs.declared.value.Fill as store
use Rattle.cs_store.specs.declared.value.Fill.TheVariants.{Unset as UnsetFill}
use Rattle.cs_store.specs.declared.value.Binding.{Binding}
use Rattle.cs_store.specs.declared.value.Binding.TheVariants.{Direct, Fill}
use Rattle.cs_store.specs.Held.{held}
use Rattle.cs_ast.specs.TypedProgram.{TypedProgram, Routine, Variable}
use Rattle.cs_meaning.specs.Machine.{routine_of, no_routine, NOWHERE}
use Rattle.cs_meaning.specs.Steps.{parameters_of}
use Rattle.cs_cfg.specs.Graph.{Code}
use Rattle.cs_state.specs.declared.block.Block.{Block}
use Rattle.cs_state.specs.declared.state.State.{State}
use Rattle.cs_state.specs.Cells.{block_of}
use Rattle.cs_state.specs.Naming.{Naming}
use Rattle.cs_state.specs.Starting.{IsFresh, HasReceived, IsStart, IsParameter}
use Rattle.cs_state.specs.Writes.{with_known}
use Rattle.cs_state.proofs.ReceivedMore.{direct_no_fill}

fill_in : Binding → store.Fill
fill_in (Direct value) = UnsetFill
fill_in (Fill fill) = fill

same_fill : (one other : store.Fill) → Fill one ≡ Fill other → one ≡ other
unfolding fill_in
same_fill one other e = ap fill_in e

no_some : {X : Type 0} (x : X) → None ≡ Some x → ⊥
no_some x e = true≢false (sym (ap is_some e))

pub none_received : (code : Code) (model : DataModel) (entry : ℕ) (program : TypedProgram) (names : Naming) (variables : List Variable) (state : State)
    → IsFresh code model entry state → HasReceived program names variables 0 state
none_received code model entry program names variables state f = record {
  each = λ number v p. absurd (omega (arith, p.early));
  bound = λ b o value here. absurd (direct_no_fill value UnsetFill (sym here ∙ f.store b o));
  unfilled = λ b o fill here. same_fill fill UnsetFill (sym here ∙ f.store b o);
  read = f.read;
  blocks = λ b block here.
      absurd (no_some block (sym (ap (λ m. block_of m b) f.blocks ∙ finite.get-empty {X = Block} key_cmp (b, 0)) ∙ here));
  symbols = λ s set here. absurd (no_some set (sym (f.constraints s) ∙ here));
}

pub parameters_there : (program : TypedProgram) (entry : ℕ) (routine : Routine) → Some routine ≡ slice_get program.routines entry
    → parameters_of routine ≡ parameters_of (routine_of program entry)
parameters_there program entry routine there = ap (λ o. parameters_of (unwrap_or o (no_routine NOWHERE))) there

pub parameters_missing : (program : TypedProgram) (entry : ℕ) → None ≡ slice_get program.routines entry
    → [] ≡ parameters_of (routine_of program entry)
parameters_missing program entry missing = ap (λ o. parameters_of (unwrap_or o (no_routine NOWHERE))) missing

-- the state of an entry all of whose parameters have received their inputs
pub started : (code : Code) (program : TypedProgram) (entry : ℕ) (names : Naming) (variables : List Variable) (fresh state : State)
    → IsFresh code program.model entry fresh → state ≡ with_known state fresh → variables ≡ parameters_of (routine_of program entry)
    → HasReceived program names variables (length variables) state → IsStart code program entry names state
started code program entry names variables fresh state f known parameters received = record {
  model_is = ap (λ (s : State). s.model) known ∙ f.model_is;
  frame = ap (λ (s : State). s.frame) known ∙ f.frame;
  callers = ap (λ (s : State). s.callers) known ∙ f.callers;
  answers = ap (λ (s : State). s.answers) known ∙ f.answers;
  counters = ap (λ (s : State). s.counters) known ∙ f.counters;
  asked = ap (λ (s : State). s.asked) known ∙ f.asked;
  phase = ap (λ (s : State). s.phase) known ∙ f.phase;
  result = ap (λ (s : State). s.result) known ∙ f.result;
  received = subst (λ (vs : List Variable). HasReceived program names vs (length vs) state) parameters received;
}
