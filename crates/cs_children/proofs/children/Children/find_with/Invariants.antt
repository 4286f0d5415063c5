-- So far the runs of the state have reached the state that remains, or an end.
use Rattle.std.proofs.Common.{◌≡◌, map}
use Rattle.cs_operators.specs.Asking.{HasEveryKind}
use Rattle.cs_state.specs.Naming.{naming, Extends}
use Rattle.cs_successors.specs.Coming.{OutcomesDiffer}
use Rattle.cs_children.specs.Finding.{AreNone, FindsSoFar}
use Rattle.cs_children.proofs.children.Children.find_with.Given as goal

abbrev pub invariant-loop : goal.invariant-loop
invariant-loop g l = record {
  kinds : map (λ b. (goal.Checker-dyn g (b.vtable, b.value)).kind_of b.value) l.attempt.checkers.items
      ≡ map (λ b. (goal.Checker-dyn g (b.vtable, b.value)).kind_of b.value) l.fn.attempt.checkers.items;
  extends : Extends (naming l.fn.tables) (naming l.tables);
  found : HasEveryKind (λ b. (goal.Checker-dyn g (b.vtable, b.value)).kind_of b.value) l.fn.attempt.checkers.items → AreNone l.fn.self
      → FindsSoFar l.exploration (naming l.tables) l.fn.state.value l.state.value l.self;
  apart : AreNone l.fn.self → OutcomesDiffer l.self.ends.items;
}
