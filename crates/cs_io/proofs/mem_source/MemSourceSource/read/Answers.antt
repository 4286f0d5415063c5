-- After the bytes that were filled, the buffer is unchanged.
use Rattle.std.proofs.Common.{arith}
use Rattle.std.proofs.lemmas.Grind.{common_steps}
use Rattle.cs_io.proofs.Filled.{drop-take_append-drop}
use Rattle.cs_io.proofs.mem_source.MemSourceSource.read.Goals as goal

pub returns-clause-fills : goal.returns-clause-fills
returns-clause-fills c = grind (arith, common_steps, drop-take_append-drop)
