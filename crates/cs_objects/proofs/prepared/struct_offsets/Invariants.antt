-- The structs before this one were prepared.
use Rattle.std.proofs.Common.{◌≡◌, ◌<◌, ◌≤◌, ◌-◌, ℕ, length}
use Rattle.cs_ast.specs.TypedProgram.{typed_program}
use Rattle.cs_objects.specs.Prepared.{offsets_in_row, prepared_offsets}
use Rattle.cs_objects.proofs.prepared.struct_offsets.Given as goal

abbrev pub invariant-loop-made : goal.invariant-loop-made
invariant-loop-made l = record {
  within : length l.made.items ≤ l.count;
  offsets : (tag : ℕ) → tag < length l.made.items → offsets_in_row l.made.items tag ≡ prepared_offsets (typed_program l.program) tag;
}

abbrev pub decreases-loop-made : goal.decreases-loop-made
decreases-loop-made l = l.count - length l.made.items
