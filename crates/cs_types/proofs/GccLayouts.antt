-- Twelve structs as gcc lays them out (12.2, under -m64, and under -m32 -malign-double, in which `long long` is aligned to
-- its eight bytes): a test of the layout that `size`, `align` and `leaf_at` return.
--
-- The structs, by number:
--  0  struct pair { char c; int i; }
--  1  struct tail { int i; char c; }
--  2  struct bytes { char a; char b[2]; }
--  3  struct wide { char c; long long w; }
--  4  struct plain { short s; long l; char c; }
--  5  struct node { int value; struct node *next; }
--  6  struct nested { char c; struct pair p; short s; }
--  7  struct rows { struct tail t[3]; unsigned char end; }
--  8  struct pointers { char c; char *p; short s; void *q[2]; }
--  9  struct deep { struct nested n[2]; struct wide w; char c; }
-- 10  struct grid { short m[2][3]; unsigned long long last; }
-- 11  struct many { unsigned char a; unsigned short b; unsigned d; unsigned long e; unsigned long long f; signed char g; }
use Rattle.std.proofs.Common.{ℕ, List, [], ◌∷◌, refl}
use Rattle.std.specs.Prelude.{Some}
use Rattle.cs_types.specs.declared.data_model.DataModel.TheVariants.{Lp64, Ilp32}
use Rattle.cs_types.specs.declared.int_type.IntType.TheVariants.{Char, SChar, UChar, Short, UShort, Int as PlainInt, UInt, Long, ULong, LLong, ULLong}
use Rattle.cs_types.specs.Members.{Member}
use Rattle.cs_types.specs.declared.structs.StructType.{StructType}
use Rattle.cs_types.specs.Layout.{IsLaidOut}
use Rattle.cs_types.specs.Shape.{Shape, void, integer, pointer, array, struct}
use Rattle.cs_types.proofs.TableTests.{laid_out_by_test}

-- a member without its name, which layout doesn't read
abbrev member : Shape → ℕ → Member
member ty offset = record { name = []; ty = ty; offset = offset }

abbrev laid : ℕ → ℕ → List Member → StructType
laid size align members = record { tag = []; members = Some members; size = size; align = align }

-- the sizes, alignments and offsets of gcc under -m64
abbrev lp64 : List StructType
lp64 =
    laid 8 4 (member (integer Char) 0 ∷ member (integer PlainInt) 4 ∷ []) ∷
    laid 8 4 (member (integer PlainInt) 0 ∷ member (integer Char) 4 ∷ []) ∷
    laid 3 1 (member (integer Char) 0 ∷ member (array (integer Char) 2) 1 ∷ []) ∷
    laid 16 8 (member (integer Char) 0 ∷ member (integer LLong) 8 ∷ []) ∷
    laid 24 8 (member (integer Short) 0 ∷ member (integer Long) 8 ∷ member (integer Char) 16 ∷ []) ∷
    laid 16 8 (member (integer PlainInt) 0 ∷ member (pointer (struct 5)) 8 ∷ []) ∷
    laid 16 4 (member (integer Char) 0 ∷ member (struct 0) 4 ∷ member (integer Short) 12 ∷ []) ∷
    laid 28 4 (member (array (struct 1) 3) 0 ∷ member (integer UChar) 24 ∷ []) ∷
    laid 40 8 (member (integer Char) 0 ∷ member (pointer (integer Char)) 8 ∷ member (integer Short) 16 ∷ member (array (pointer void) 2) 24 ∷ []) ∷
    laid 56 8 (member (array (struct 6) 2) 0 ∷ member (struct 3) 32 ∷ member (integer Char) 48 ∷ []) ∷
    laid 24 8 (member (array (array (integer Short) 3) 2) 0 ∷ member (integer ULLong) 16 ∷ []) ∷
    laid 32 8 (member (integer UChar) 0 ∷ member (integer UShort) 2 ∷ member (integer UInt) 4 ∷ member (integer ULong) 8 ∷ member (integer ULLong) 16
    ∷ member (integer SChar) 24 ∷ []) ∷ []

-- and under -m32 -malign-double
abbrev ilp32 : List StructType
ilp32 =
    laid 8 4 (member (integer Char) 0 ∷ member (integer PlainInt) 4 ∷ []) ∷
    laid 8 4 (member (integer PlainInt) 0 ∷ member (integer Char) 4 ∷ []) ∷
    laid 3 1 (member (integer Char) 0 ∷ member (array (integer Char) 2) 1 ∷ []) ∷
    laid 16 8 (member (integer Char) 0 ∷ member (integer LLong) 8 ∷ []) ∷
    laid 12 4 (member (integer Short) 0 ∷ member (integer Long) 4 ∷ member (integer Char) 8 ∷ []) ∷
    laid 8 4 (member (integer PlainInt) 0 ∷ member (pointer (struct 5)) 4 ∷ []) ∷
    laid 16 4 (member (integer Char) 0 ∷ member (struct 0) 4 ∷ member (integer Short) 12 ∷ []) ∷
    laid 28 4 (member (array (struct 1) 3) 0 ∷ member (integer UChar) 24 ∷ []) ∷
    laid 20 4 (member (integer Char) 0 ∷ member (pointer (integer Char)) 4 ∷ member (integer Short) 8 ∷ member (array (pointer void) 2) 12 ∷ []) ∷
    laid 56 8 (member (array (struct 6) 2) 0 ∷ member (struct 3) 32 ∷ member (integer Char) 48 ∷ []) ∷
    laid 24 8 (member (array (array (integer Short) 3) 2) 0 ∷ member (integer ULLong) 16 ∷ []) ∷
    laid 32 8 (member (integer UChar) 0 ∷ member (integer UShort) 2 ∷ member (integer UInt) 4 ∷ member (integer ULong) 8 ∷ member (integer ULLong) 16
    ∷ member (integer SChar) 24 ∷ []) ∷ []

pub lp64-laid_out : IsLaidOut Lp64 lp64
lp64-laid_out = laid_out_by_test Lp64 lp64 refl

pub ilp32-laid_out : IsLaidOut Ilp32 ilp32
ilp32-laid_out = laid_out_by_test Ilp32 ilp32 refl
