-- The static objects at the beginning of a run: for the contract of `Prepared::new`.
use Rattle.std.proofs.Common.{◌≡◌, ℕ, zero, suc, List, [], ◌∷◌, map, Some, refl, ap}
use Rattle.std.specs.Prelude.{option_map, slice_get}
use mathlib.Core.Path.{fun_ext}
use Rattle.cs_ast.specs.declared.typed.program.Program.{Program}
use Rattle.cs_ast.specs.TypedProgram.{typed_program, file_object}
use Rattle.cs_events.specs.Objects.{Object, StartBlock, GlobalObject, LiteralObject, LocalObject, HeapBlock}
use Rattle.cs_meaning.specs.Memory as meaning
use Rattle.cs_meaning.specs.Steps.{static_memory, global_block, literal_block}
use Rattle.cs_objects.specs.declared.blocks.Block.{Block}
use Rattle.cs_objects.specs.declared.prepared.Prepared.{Prepared}
use Rattle.cs_objects.specs.BlockView.{block_of, block_at}
use Rattle.cs_objects.specs.Prepared.{statics_of}

-- the elements of a row made from a list
row_of : {A : Type 0} (f : A → meaning.Block) (row : List Block) (from : List A) → map block_of row ≡ map f from
    → (n : ℕ) → block_at row n ≡ option_map f (slice_get from n)
row_of f [] [] e n = refl
row_of f [] (x ∷ xs) e n = cc
row_of f (b ∷ row) [] e n = cc
row_of f (b ∷ row) (x ∷ xs) e zero =
    let head : block_of b ≡ f x = cc in
    ap Some head
row_of f (b ∷ row) (x ∷ xs) e (suc n) =
    let tail : map block_of row ≡ map f xs = cc in
    row_of f row xs tail n

pub statics_are : (program : Program) (prepared : Prepared)
    → map block_of prepared.globals.items ≡ map (global_block (typed_program program)) (map file_object program.globals.items)
    → map block_of prepared.literals.items ≡ map literal_block program.literals.items → statics_of prepared ≡ static_memory (typed_program program)
statics_are program prepared globals literals = fun_ext (λ object. at object)
  where
    at : (object : Object) → statics_of prepared object ≡ static_memory (typed_program program) object
    at (StartBlock path) = refl
    at (GlobalObject n) = row_of (global_block (typed_program program)) prepared.globals.items (map file_object program.globals.items) globals n
    at (LiteralObject n) = row_of literal_block prepared.literals.items program.literals.items literals n
    at (LocalObject frame declaration) = refl
    at (HeapBlock allocation) = refl
