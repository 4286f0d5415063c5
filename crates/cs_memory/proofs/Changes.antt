-- Several changes of one object: for the contracts of functions that write several scalars.
use Rattle.std.proofs.Common.{◌≡◌, ◌⊎◌, inl, inr, ℕ, ◌+◌, Bool, true, false, List, [], ◌∷◌, Option, Some, None, refl, sym, ap}
use Rattle.std.proofs.Common.{◌∙◌, arith}
use Rattle.std.specs.Prelude.{option_map, unwrap_or, if◌then◌else◌}
use Rattle.std.specs.declared.cmp.Ordering.{Ordering}
use Rattle.std.specs.declared.cmp.Ordering.TheVariants.{Less, Equal, Greater}
use Rattle.std.proofs.lemmas.Bool.Decides.{nat_tests}
use mathlib.Core.Path.{fun_ext}
use Rattle.cs_types.specs.Shape.{Shape, void}
use Rattle.cs_inputs.specs.PathOrder.{path_order}
use Rattle.cs_inputs.proofs.PathOrderLaws.{path_order-tie}
use Rattle.cs_ast.specs.TypedProgram.{TypedProgram}
use Rattle.cs_events.specs.Objects.{Object, StartBlock, GlobalObject, LiteralObject, LocalObject, HeapBlock, is_equal, same_object, Cell}
use Rattle.cs_meaning.specs.Types.{scalar_of}
use Rattle.cs_meaning.specs.Initials.{byte_cell}
use Rattle.cs_meaning.specs.Access.{write_cells, write_bytes}
use Rattle.cs_memory.specs.Reaching.{spells}
use Rattle.cs_meaning.specs.Memory.{Block, Memory, changed, write_cell}

-- an object that is changed twice
pub changed-changed : (f g : Block → Block) (object : Object) (memory : Memory)
    → changed g object (changed f object memory) ≡ changed (λ b. g (f b)) object memory
changed-changed f g object memory = fun_ext (λ other. at (same_object object other) (memory other))
  where
    at : (b : Bool) (found : Option Block) → (if b then option_map g (if b then option_map f found else found) else (if b then option_map f found else found))
        ≡ (if b then option_map (λ x. g (f x)) found else found)
    at true (Some x) = refl
    at true None = refl
    at false found = refl

-- an object without a change
pub changed-same : (object : Object) (memory : Memory) → changed (λ b. b) object memory ≡ memory
changed-same object memory = fun_ext (λ other. at (same_object object other) (memory other))
  where
    at : (b : Bool) (found : Option Block) → (if b then option_map (λ x. x) found else found) ≡ found
    at true (Some x) = refl
    at true None = refl
    at false found = refl

-- one more scalar of a struct was written
pub one_more_written : (from : ℕ) (object : Object) (memory after : Memory) (left rest : List ℕ) (cells others : List Cell) (o : ℕ) (cell : Cell)
    → left ≡ o ∷ rest → cells ≡ cell ∷ others → after ≡ changed (write_cell (from + o) cell) object memory
    → changed (write_cells from rest others) object after ≡ changed (write_cells from left cells) object memory
one_more_written from object memory after left rest cells others o cell split split' is =
    rw (is, split, split') (changed-changed (write_cell (from + o) cell) (write_cells from rest others) object memory)

-- no scalar remains to be written
pub none_written : (from : ℕ) (object : Object) (memory : Memory) (left : List ℕ) (cells : List Cell) → (left ≡ []) ⊎ (cells ≡ [])
    → changed (write_cells from left cells) object memory ≡ memory
none_written from object memory left cells (inl none) = rw none (changed-same object memory)
none_written from object memory [] cells (inr none) = changed-same object memory
none_written from object memory (o ∷ rest) cells (inr none) = rw none (changed-same object memory)

-- one more byte was written
pub one_more_spelled : (program : TypedProgram) (ty : Shape) (at : ℕ) (object : Object) (memory after : Memory) (left rest : List ℕ) (byte : ℕ)
    → left ≡ byte ∷ rest → after ≡ changed (write_cell at (byte_cell program.model (unwrap_or (scalar_of program ty at) void) byte)) object memory
    → changed (spells program ty (at + 1) rest) object after ≡ changed (spells program ty at left) object memory
one_more_spelled program ty at object memory after left rest byte split is =
    rw (is, split) (changed-changed (write_cell at (byte_cell program.model (unwrap_or (scalar_of program ty at) void) byte)) (spells program ty (at + 1) rest)
    object memory)

-- a string literal in an object of a type
pub write_bytes-spells : (program : TypedProgram) (from : ℕ) (bytes : List ℕ) (block : Block)
    → write_bytes program from bytes block ≡ spells program block.shape from bytes block
write_bytes-spells program from [] block = refl
write_bytes-spells program from (byte ∷ bytes) block =
    write_bytes-spells program (from + 1) bytes (write_cell from (byte_cell program.model (unwrap_or (scalar_of program block.shape from) void) byte) block)

-- memory is the same at objects that compare as the same
pub same-known : (memory : Memory) (one other : Object) → same_object one other ≡ true → memory other ≡ memory one
same-known memory (StartBlock p) (StartBlock q) e = ap (λ x. memory (StartBlock x)) (sym (path_order-tie p q (tie (path_order p q) refl e)))
  where
    tie : (o : Ordering) → path_order p q ≡ o → is_equal o ≡ true → path_order p q ≡ Equal
    tie Less f e = absurd (cc)
    tie Equal f e = f
    tie Greater f e = absurd (cc)
same-known memory (GlobalObject m) (GlobalObject n) e = let same : m ≡ n = grind (arith, nat_tests) in ap (λ x. memory (GlobalObject x)) (sym same)
same-known memory (LiteralObject m) (LiteralObject n) e = let same : m ≡ n = grind (arith, nat_tests) in ap (λ x. memory (LiteralObject x)) (sym same)
same-known memory (LocalObject f m) (LocalObject g n) e = let frame : f ≡ g = grind (arith, nat_tests) in let same : m ≡ n = grind (arith, nat_tests) in
    ap (λ x. memory (LocalObject x n)) (sym frame) ∙ ap (λ x. memory (LocalObject f x)) (sym same)
same-known memory (HeapBlock m) (HeapBlock n) e = let same : m ≡ n = grind (arith, nat_tests) in ap (λ x. memory (HeapBlock x)) (sym same)
same-known memory one other e = absurd (cc)

-- two changes with the same result for the object are the same
pub changed-as : (f g : Block → Block) (object : Object) (memory : Memory) → option_map f (memory object) ≡ option_map g (memory object)
    → changed f object memory ≡ changed g object memory
changed-as f g object memory same = fun_ext (λ other. at other (same_object object other) refl)
  where
    at : (other : Object) (b : Bool) → same_object object other ≡ b
        → (if b then option_map f (memory other) else memory other) ≡ (if b then option_map g (memory other) else memory other)
    at other true e = rw (same-known memory object other e) same
    at other false e = refl

-- an object that doesn't exist isn't changed
pub changed-none : (f : Block → Block) (object : Object) (memory : Memory) → memory object ≡ None → changed f object memory ≡ memory
changed-none f object memory none = changed-as f (λ b. b) object memory (rw none refl) ∙ changed-same object memory

-- no byte remains to be written
pub none_spelled : (program : TypedProgram) (ty : Shape) (at : ℕ) (object : Object) (memory : Memory) (left : List ℕ) → left ≡ []
    → changed (spells program ty at left) object memory ≡ memory
none_spelled program ty at object memory left none = rw none (changed-same object memory)
