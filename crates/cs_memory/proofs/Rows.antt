-- Lists of objects, one of which is changed: for the contracts of memory.
use Rattle.std.proofs.Common.{◌≡◌, ℕ, zero, suc, ◌<◌, ◌≤◌, ◌==◌, List, [], ◌∷◌, length, set, get_or, Some, Vec, refl}
use Rattle.std.proofs.Common.{◌++◌, Bool, true, false, arith}
use Rattle.std.specs.declared.alloc.Global.{Global}
use mathlib.Core.Path.{fun_ext}
use Rattle.std.specs.Prelude.{slice_get, if◌then◌else◌}
use Rattle.std.specs.Option.{option_and_then}
use Rattle.std.proofs.lemmas.Option.{slice_get-get_or, slice_get_past}
use Rattle.cs_events.specs.Objects.{Object, StartBlock, GlobalObject, LiteralObject, LocalObject, HeapBlock}
use Rattle.cs_meaning.specs.Memory as meaning
use Rattle.cs_memory.specs.declared.memory.Memory.{Memory}
use Rattle.cs_objects.specs.declared.blocks.Block.{Block}
use Rattle.cs_objects.specs.BlockView.{block_of, block_at}
use Rattle.cs_memory.specs.MemoryView.{local_in, changed_at, memory_of, with_frame}

-- the elements of a list, after one was set
pub slice_get-set : {A : Type 0} (xs : List A) (i n : ℕ) (x : A) → i < length xs
    → slice_get (set xs i x) n ≡ (if i == n then Some x else slice_get xs n)
slice_get-set [] i n x h = absurd (omega (arith, h))
slice_get-set (y ∷ ys) zero zero x h = refl
slice_get-set (y ∷ ys) zero (suc n) x h = grind arith
slice_get-set (y ∷ ys) (suc i) zero x h = grind arith
slice_get-set (y ∷ ys) (suc i) (suc n) x h = grind (arith, slice_get-set ys i n x (omega (arith, h)))

-- an object of a row was changed
pub row_changed : (xs : List Block) (i : ℕ) (old new : Block) (f : meaning.Block → meaning.Block) → i < length xs → old ≡ get_or xs i old
    → block_of new ≡ f (block_of old) → (n : ℕ) → block_at (set xs i new) n ≡ changed_at f i (block_at xs) n
row_changed xs i old new f inside is same n = grind (arith, slice_get-set xs i n new inside, slice_get-get_or xs i old inside)

-- an index outside of a row changes nothing
pub row_stays : (xs : List Block) (i : ℕ) (f : meaning.Block → meaning.Block) → length xs ≤ i
    → (n : ℕ) → block_at xs n ≡ changed_at f i (block_at xs) n
row_stays xs i f past n = grind (arith, slice_get_past xs i past)

-- the elements of a list, after one was appended
pub slice_get-push : {A : Type 0} (xs : List A) (x : A) (n : ℕ) → slice_get (xs ++ x ∷ []) n ≡ (if n == length xs then Some x else slice_get xs n)
slice_get-push [] x zero = refl
slice_get-push [] x (suc n) = grind arith
slice_get-push (y ∷ ys) x zero = grind arith
slice_get-push (y ∷ ys) x (suc n) = grind (arith, slice_get-push ys x n)

-- the locals of one more frame
pub frame_added : (memory : Memory) (frames : Vec (Vec Block Global) Global) (locals : Vec Block Global)
    → frames.items ≡ memory.frames.items ++ locals ∷ []
    → memory_of (record memory { frames = frames }) ≡ with_frame (length memory.frames.items) (block_at locals.items) (memory_of memory)
frame_added memory frames locals is = fun_ext (λ object. at object)
  where
    local : (n d : ℕ) → local_in frames.items n d
        ≡ (if n == length memory.frames.items then block_at locals.items d else local_in memory.frames.items n d)
    local n d =
        rw is (rw slice_get-push
        (elim (n == length memory.frames.items) as (λ (b : Bool).
        option_and_then (λ (row : Vec Block Global). block_at row.items d) (if b then Some locals else slice_get memory.frames.items n)
        ≡ (if b then block_at locals.items d else local_in memory.frames.items n d)) [ true ↦ refl | false ↦ refl ]))

    at : (object : Object) → memory_of (record memory { frames = frames }) object
        ≡ with_frame (length memory.frames.items) (block_at locals.items) (memory_of memory) object
    at (StartBlock path) = refl
    at (GlobalObject global) = refl
    at (LiteralObject literal) = refl
    at (LocalObject n d) = local n d
    at (HeapBlock allocation) = refl
