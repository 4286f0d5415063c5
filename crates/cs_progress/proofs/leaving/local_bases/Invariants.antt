-- The numbers found so far are those of the locals before the declaration, and all numbers keep their names.
use Rattle.cs_state.specs.Naming.{naming, Extends}
use Rattle.cs_progress.specs.Leaving.{AreLocals}
use Rattle.cs_progress.proofs.leaving.local_bases.Given as goal

abbrev pub invariant-loop-declaration : goal.invariant-loop-declaration
invariant-loop-declaration l =
    AreLocals (naming l.tables).bases l.state.frame.number l.declaration l.bases.items × Extends (naming l.initial.tables) (naming l.tables)
