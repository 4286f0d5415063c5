-- The locals before the number were made.
use Rattle.std.proofs.Common.{◌≡◌, ℕ, ◌<◌, length, map}
use Rattle.std.specs.Prelude.{option_map, slice_get}
use Rattle.cs_ast.specs.TypedProgram.{typed_program, variable}
use Rattle.cs_meaning.specs.Calls.{local_block}
use Rattle.cs_values.specs.View.{operand_of}
use Rattle.cs_objects.specs.BlockView.{block_at}
use Rattle.cs_frames.proofs.frames.local_blocks.Given as goal

abbrev pub invariant-loop-number : goal.invariant-loop-number
invariant-loop-number l = record {
  count : length l.made.items ≡ l.number;
  blocks : (n : ℕ) → n < l.number → block_at l.made.items n
      ≡ option_map (local_block (typed_program l.program) (slice_get (map operand_of l.arguments) n)) (slice_get (map variable l.locals) n);
}
