-- The inputs with the constants before the index were added to the tries, up to the limit of tries.
use Rattle.std.proofs.Common.{◌≡◌, ◌++◌, take}
use Rattle.cs_findings.specs.Neighbours.{replaced}
use Rattle.cs_witness.proofs.neighbours.add_replaced.Given as goal

abbrev pub invariant-loop-number : goal.invariant-loop-number
invariant-loop-number l = l.tries.items ≡ take 64 (l.fn.tries.items ++ replaced (take l.number-index l.constants) l.inputs l.path)
