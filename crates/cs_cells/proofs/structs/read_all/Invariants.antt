use Rattle.cs_state.specs.Naming.{naming, Extends}
use Rattle.cs_cells.proofs.structs.read_all.Given as goal

abbrev pub invariant-loop-offset : goal.invariant-loop-offset
invariant-loop-offset l = Extends (naming l.fn.tables) (naming l.tables)
