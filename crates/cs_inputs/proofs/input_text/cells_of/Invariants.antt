use Rattle.std.proofs.Common.{length}
use Rattle.cs_inputs.proofs.CellCuts.{AreReadTo}
use Rattle.cs_inputs.proofs.input_text.cells_of.Given as goal

abbrev pub invariant-loop-rest : goal.invariant-loop-rest
invariant-loop-rest l = AreReadTo l.text l.cells l.rest

abbrev pub decreases-loop-rest : goal.decreases-loop-rest
decreases-loop-rest l = length l.rest
