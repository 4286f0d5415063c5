-- Numbers that an integer type can represent: for the constants of an expression.
use Rattle.std.proofs.Common.{◌≡◌, ℕ, ◌*◌, ◌^◌, ◌<◌, ◌≤◌, Bool, true, false, cond, List, [], ◌∷◌, Some, arith, refl, subst}
use Rattle.std.specs.Prelude.{ℤ, pos, ◌≤ℤ◌, int_le, FitsSigned}
use Rattle.std.specs.Int.{w32}
use Rattle.std.proofs.lemmas.Int.{ints}
use Rattle.std.proofs.lemmas.Option.{option_and_then_some, cond_some}
use Rattle.std.proofs.lemmas.Bool.Decides.{nat_tests}
use Rattle.cs_types.specs.declared.data_model.DataModel.{DataModel}
use Rattle.cs_types.specs.declared.data_model.DataModel.TheVariants.{Lp64, Ilp32}
use Rattle.cs_types.specs.declared.int_type.IntType.{IntType}
use Rattle.cs_types.specs.declared.int_type.IntType.TheVariants.{Char, SChar, UChar, Short, UShort, Int, UInt, Long, ULong, LLong, ULLong}
use Rattle.cs_types.specs.declared.structs.StructType.{StructType}
use Rattle.cs_types.specs.IntType.{bytes_of, least_of, greatest_of, InRange}
use Rattle.cs_types.specs.DataModel.{size_type_of}
use Rattle.cs_types.specs.Layout.{complete_of}
use Rattle.cs_types.specs.Shape.{Shape, void, integer, pointer, array, struct}
use Rattle.cs_ast.specs.declared.token.IntegerConstant.{IntegerConstant}
use Rattle.cs_scopes.specs.Sizes.{limited, bytes_in}
use Rattle.cs_expressions.specs.Primary.{can_represent, first_representing, unsigned_types, decimal_types, other_types, constant_type}
use Rattle.cs_ast.specs.HeldTokens.{IsHeldConstant}

-- every integer type has the numbers up to 127
pub small-InRange : (model : DataModel) (ty : IntType) (n : ℕ) → n ≤ 127 → InRange model ty (pos n)
small-InRange Lp64 Long n h = record { from_least = omega (arith, ints); to_greatest = omega (arith, ints) }
small-InRange Lp64 ULong n h = record { from_least = omega (arith, ints); to_greatest = omega (arith, ints) }
small-InRange Ilp32 Long n h = record { from_least = omega (arith, ints); to_greatest = omega (arith, ints) }
small-InRange Ilp32 ULong n h = record { from_least = omega (arith, ints); to_greatest = omega (arith, ints) }
small-InRange model Char n h = record { from_least = omega (arith, ints); to_greatest = omega (arith, ints) }
small-InRange model SChar n h = record { from_least = omega (arith, ints); to_greatest = omega (arith, ints) }
small-InRange model UChar n h = record { from_least = omega (arith, ints); to_greatest = omega (arith, ints) }
small-InRange model Short n h = record { from_least = omega (arith, ints); to_greatest = omega (arith, ints) }
small-InRange model UShort n h = record { from_least = omega (arith, ints); to_greatest = omega (arith, ints) }
small-InRange model Int n h = record { from_least = omega (arith, ints); to_greatest = omega (arith, ints) }
small-InRange model UInt n h = record { from_least = omega (arith, ints); to_greatest = omega (arith, ints) }
small-InRange model LLong n h = record { from_least = omega (arith, ints); to_greatest = omega (arith, ints) }
small-InRange model ULLong n h = record { from_least = omega (arith, ints); to_greatest = omega (arith, ints) }

-- the least number of a type is at most 0
least-zero : (model : DataModel) (ty : IntType) → least_of model ty ≤ℤ pos 0
least-zero model ty = (small-InRange model ty 0 (omega arith)).from_least

-- a number that is at most the greatest of its type
upto-InRange : (model : DataModel) (ty : IntType) (n : ℕ) → pos n ≤ℤ greatest_of model ty → InRange model ty (pos n)
upto-InRange model ty n h = record { from_least = above (least_of model ty) (least-zero model ty); to_greatest = h }
  where
    above : (low : ℤ) → low ≤ℤ pos 0 → low ≤ℤ pos n
    above low k = omega (arith, ints)

-- a character constant is a number of `int`
pub character-InRange : (model : DataModel) (n : ℤ) → FitsSigned w32 n → InRange model Int n
character-InRange model n h = record { from_least = omega (arith, ints, h); to_greatest = omega (arith, ints, h) }

-- the size of an object is a number of the type of `sizeof`
pub size-InRange : (model : DataModel) (n : ℕ) → n ≤ 2 ^ 20 → InRange model (size_type_of model) (pos n)
size-InRange Lp64 n h = record { from_least = omega (arith, ints); to_greatest = omega (arith, ints) }
size-InRange Ilp32 n h = record { from_least = omega (arith, ints); to_greatest = omega (arith, ints) }

bytes-small : (model : DataModel) (ty : IntType) → bytes_of model ty ≤ 2 ^ 20
bytes-small Lp64 Long = omega arith
bytes-small Lp64 ULong = omega arith
bytes-small Ilp32 Long = omega arith
bytes-small Ilp32 ULong = omega arith
bytes-small model Char = omega arith
bytes-small model SChar = omega arith
bytes-small model UChar = omega arith
bytes-small model Short = omega arith
bytes-small model UShort = omega arith
bytes-small model Int = omega arith
bytes-small model UInt = omega arith
bytes-small model LLong = omega arith
bytes-small model ULLong = omega arith

limited-small : (bytes n : ℕ) → limited bytes ≡ Some n → n ≤ 2 ^ 20
limited-small bytes n h = let found = cond_some _ bytes n h in grind (arith, nat_tests, found)

pub bytes_in-small : (model : DataModel) (table : List StructType) (ty : Shape) (n : ℕ) → bytes_in model table ty ≡ Some n → n ≤ 2 ^ 20
bytes_in-small model table void n h = absurd cc
bytes_in-small model table (integer ty) n h = let is : bytes_of model ty ≡ n = cc in subst (λ k. k ≤ 2 ^ 20) is (bytes-small model ty)
bytes_in-small Lp64 table (pointer target) n h = let is : 8 ≡ n = cc in omega arith
bytes_in-small Ilp32 table (pointer target) n h = let is : 4 ≡ n = cc in omega arith
bytes_in-small model table (array element count) n h =
    option_and_then_some (λ bytes. limited (count * bytes)) (bytes_in model table element) n h (λ bytes _ is. limited-small (count * bytes) n is)
bytes_in-small model table (struct number) n h =
    option_and_then_some (λ (laid : StructType). limited laid.size) (complete_of table number) n h (λ laid _ is. limited-small laid.size n is)

-- if the last type can represent a number, so can the first one that is chosen
first-InRange : (model : DataModel) (n : ℕ) (last : IntType) (types : List IntType) → InRange model last (pos n)
    → InRange model (first_representing model n last types) (pos n)
first-InRange model n last [] h = h
first-InRange model n last (ty ∷ types) h = by_room (can_represent model ty n) refl (first-InRange model n last types h)
  where
    by_room : (room : Bool) → can_represent model ty n ≡ room → InRange model (first_representing model n last types) (pos n)
        → InRange model (cond room ty (first_representing model n last types)) (pos n)
    by_room true is rest = upto-InRange model ty n (under (greatest_of model ty) is)
      where
        under : (high : ℤ) → int_le (pos n) high ≡ true → pos n ≤ℤ high
        under high k = grind (arith, ints)
    by_room false is rest = rest

-- an integer constant that isn't too wide is a number of its type
pub constant-InRange : (model : DataModel) (k : IntegerConstant) → IsHeldConstant k → InRange model (constant_type model k) (pos k.value)
unfolding constant_type
constant-InRange model k h = by_suffix k.unsigned refl k.decimal refl
  where
    widest : InRange model ULLong (pos k.value)
    widest = record { from_least = omega (arith, ints); to_greatest = omega (arith, ints, h.fits) }

    widest_signed : k.value < 2 ^ 63 → InRange model LLong (pos k.value)
    widest_signed below = record { from_least = omega (arith, ints); to_greatest = omega (arith, ints) }

    by_suffix : (unsigned : Bool) → k.unsigned ≡ unsigned → (decimal : Bool) → k.decimal ≡ decimal
        → InRange model (cond unsigned (first_representing model k.value ULLong (unsigned_types k.length))
        (cond decimal (first_representing model k.value LLong (decimal_types k.length)) (first_representing model k.value ULLong (other_types k.length))))
        (pos k.value)
    by_suffix true is decimal is' = first-InRange model k.value ULLong (unsigned_types k.length) widest
    by_suffix false is true is' = first-InRange model k.value LLong (decimal_types k.length) (widest_signed (h.fits_signed is' is))
    by_suffix false is false is' = first-InRange model k.value ULLong (other_types k.length) widest
