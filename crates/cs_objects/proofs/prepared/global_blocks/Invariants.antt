-- The objects before the index were made.
use Rattle.std.proofs.Common.{◌≡◌, map, take}
use Rattle.cs_ast.specs.TypedProgram.{typed_program, file_object}
use Rattle.cs_meaning.specs.Steps.{global_block}
use Rattle.cs_objects.specs.BlockView.{block_of}
use Rattle.cs_objects.proofs.prepared.global_blocks.Given as goal

abbrev pub invariant-loop-object : goal.invariant-loop-object
invariant-loop-object l = map block_of l.made.items
    ≡ map (global_block (typed_program l.program)) (map file_object (take l.object-index l.program.globals.items))
