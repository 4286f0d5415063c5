-- The arguments from the number on are to be evaluated.
use Rattle.std.proofs.Common.{◌≡◌, ◌≤◌, ◌∷◌, drop, length}
use Rattle.cs_ast.specs.TypedView.{typed, typed_list}
use Rattle.cs_meaning.specs.Machine.{Act, to_do}
use Rattle.cs_meaning.specs.Expressions.{evaluates_all}
use Rattle.cs_run_state.specs.MachineView.{state_of}
use Rattle.cs_run_state.proofs.machine.Machine.evaluate_all.Given as goal

abbrev pub invariant-loop-left : goal.invariant-loop-left
invariant-loop-left l = record {
  within : l.left ≤ length l.arguments;
  put : state_of l.self ≡ to_do (evaluates_all (typed_list (drop l.left l.arguments)) (Act (typed l.e) ∷ (state_of l.fn.self).frame.todo))
      (state_of l.fn.self);
}

abbrev pub decreases-loop-left : goal.decreases-loop-left
decreases-loop-left l = l.left
