-- The literals before the index were made.
use Rattle.std.proofs.Common.{◌≡◌, map, take}
use Rattle.cs_meaning.specs.Steps.{literal_block}
use Rattle.cs_objects.specs.BlockView.{block_of}
use Rattle.cs_objects.proofs.prepared.literal_blocks.Given as goal

abbrev pub invariant-loop-literal : goal.invariant-loop-literal
invariant-loop-literal l = map block_of l.made.items ≡ map literal_block (take l.literal-index l.program.literals.items)
