-- Objects that pointers point to, and the contents of scalars in memory: shared by all machines that run programs.
use Rattle.std.specs.Prelude.{ℕ, ℤ, Bool, true, false, ◌&&◌, ◌==◌}
use Rattle.std.specs.declared.cmp.Ordering.{Ordering}
use Rattle.std.specs.declared.cmp.Ordering.TheVariants.{Less, Equal, Greater}
use Rattle.cs_inputs.specs.declared.path.Path.{Path}
use Rattle.cs_inputs.specs.PathOrder.{path_order}

-- an object: the start block that an unknown pointer points to, by the pointer's path; a file-scope object; a string literal; a local,
-- by frame number and declaration; the block of an allocation, by the allocation's number
pub data Object : Type 0 where
  StartBlock : (path : Path) → Object
  GlobalObject : (global : ℕ) → Object
  LiteralObject : (literal : ℕ) → Object
  LocalObject : (frame declaration : ℕ) → Object
  HeapBlock : (allocation : ℕ) → Object

-- the contents of a scalar: a number, a null pointer, a pointer to an object at a byte offset, or unset
pub data Cell : Type 0 where
  NumberCell : (number : ℤ) → Cell
  NullCell : Cell
  PointerCell : (object : Object) (offset : ℤ) → Cell
  UnsetCell : Cell

-- whether two paths compare as equal
abbrev pub is_equal : Ordering → Bool
is_equal Less = false
is_equal Equal = true
is_equal Greater = false

-- whether two objects are the same
abbrev pub same_object : Object → Object → Bool
same_object (StartBlock p) (StartBlock q) = is_equal (path_order p q)
same_object (GlobalObject m) (GlobalObject n) = m == n
same_object (LiteralObject m) (LiteralObject n) = m == n
same_object (LocalObject f m) (LocalObject g n) = (f == g) && (m == n)
same_object (HeapBlock m) (HeapBlock n) = m == n
same_object one other = false
