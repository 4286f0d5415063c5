use Rattle.std.proofs.Common.{◌≡◌, Result, Ok, Err, Option, Some, None, sym}
use Rattle.std.specs.Prelude.{IfOk, IfSome}
use Rattle.cs_values.specs.View.{object_of}
use Rattle.cs_objects.specs.BlockView.{block_of}
use Rattle.cs_memory.specs.MemoryView.{memory_of}
use Rattle.cs_memory.proofs.Reading.{written_read}
use Rattle.cs_memory.proofs.memory.Memory.written_cells.Goals as goal

-- a consequence for what is found
on_found : {A E : Type 0} {P Q : A → Type 0} (r : Result (Option A) E) → ((x : A) → P x → Q x) → IfOk r (λ found. IfSome found P)
    → IfOk r (λ found. IfSome found Q)
on_found (Ok (Some x)) f p = f x p
on_found (Ok None) f p = tt
on_found (Err e) f p = tt

pub returns-in-Some : goal.returns-in-Some
returns-in-Some c =
    let object = object_of c.args.object.now in
    let there : memory_of c.args.self.now object ≡ Some (block_of c.in-Some.block.now) = sym c.in-Some.ensures in
    on_found c.written_cells.result
    (λ cells same. written_read (memory_of c.args.self.now) object c.in-Some.block.now c.args.from c.args.offsets.now cells.items there same)
    c.written_cells.ensures
