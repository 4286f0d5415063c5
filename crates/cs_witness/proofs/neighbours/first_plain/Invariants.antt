-- No run of the tries before the index has this outcome.
use Rattle.std.proofs.Common.{take}
use Rattle.std.specs.Prelude.{All}
use Rattle.cs_witness.specs.Witnesses.{IsElsewhereOf}
use Rattle.cs_witness.proofs.neighbours.first_plain.Given as goal

abbrev pub invariant-loop-inputs : goal.invariant-loop-inputs
invariant-loop-inputs l = All (IsElsewhereOf l.entry l.what) (take l.inputs-index l.tries)
