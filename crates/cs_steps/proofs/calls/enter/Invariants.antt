-- Tables only grow as parameters are named.
use Rattle.cs_state.specs.Naming.{naming, Extends}
use Rattle.cs_steps.proofs.calls.enter.Given as goal

abbrev pub invariant-loop-declaration : goal.invariant-loop-declaration
invariant-loop-declaration l = Extends (naming l.fn.tables) (naming l.tables)
