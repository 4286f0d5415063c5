-- The table of fault kinds.
use Rattle.std.specs.Prelude.{ℕ, List, codes}
use Rattle.cs_model.specs.declared.kind.Kind.{Kind}
use Rattle.cs_model.specs.declared.kind.Kind.TheVariants.{Null, Divide, Unset, Bounds, DoubleFree, Freed, BadFree, DeadLocal, Shift, Unrelated, ConstWrite}

-- the word for a kind
abbrev pub kind_name : Kind → List ℕ
kind_name Null = codes "null"
kind_name Divide = codes "divide"
kind_name Unset = codes "unset"
kind_name Bounds = codes "bounds"
kind_name DoubleFree = codes "double-free"
kind_name Freed = codes "freed"
kind_name BadFree = codes "bad-free"
kind_name DeadLocal = codes "dead-local"
kind_name Shift = codes "shift"
kind_name Unrelated = codes "unrelated"
kind_name ConstWrite = codes "const-write"

-- the number of a kind, used to order kinds
abbrev pub kind_number : Kind → ℕ
kind_number Null = 1
kind_number Divide = 2
kind_number Unset = 3
kind_number Bounds = 4
kind_number DoubleFree = 5
kind_number Freed = 6
kind_number BadFree = 7
kind_number DeadLocal = 8
kind_number Shift = 9
kind_number Unrelated = 10
kind_number ConstWrite = 11
