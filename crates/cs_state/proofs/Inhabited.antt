-- Each type has 0, and its ends are inside the bounds of sets: for the contract of `receive_number`.
use Rattle.std.proofs.Common.{refl}
use Rattle.std.specs.Prelude.{IsTrue, int_le, ◌&&◌, pos}
use Rattle.cs_types.specs.declared.data_model.DataModel.{DataModel}
use Rattle.cs_types.specs.declared.data_model.DataModel.TheVariants.{Lp64, Ilp32}
use Rattle.cs_types.specs.declared.int_type.IntType.{IntType}
use Rattle.cs_types.specs.declared.int_type.IntType.TheVariants.{Char, SChar, UChar, Short, UShort, Int, UInt, Long, ULong, LLong, ULLong}
use Rattle.cs_types.specs.IntType.{least_of, greatest_of}
use Rattle.cs_ranges.specs.Interval.{IsInside}
use Rattle.std.proofs.Common.{arith}
use Rattle.std.proofs.lemmas.Int.{ints}

pub zero_held : (model : DataModel) (ty : IntType) → IsTrue (int_le (least_of model ty) (pos 0) && int_le (pos 0) (greatest_of model ty))
zero_held Lp64 Long = refl
zero_held Lp64 ULong = refl
zero_held Ilp32 Long = refl
zero_held Ilp32 ULong = refl
zero_held model Char = refl
zero_held model SChar = refl
zero_held model UChar = refl
zero_held model Short = refl
zero_held model UShort = refl
zero_held model Int = refl
zero_held model UInt = refl
zero_held model LLong = refl
zero_held model ULLong = refl

pub ends_inside : (model : DataModel) (ty : IntType) → IsInside (least_of model ty) × IsInside (greatest_of model ty)
ends_inside Lp64 Long = ((omega (arith, ints), omega (arith, ints)), (omega (arith, ints), omega (arith, ints)))
ends_inside Lp64 ULong = ((omega (arith, ints), omega (arith, ints)), (omega (arith, ints), omega (arith, ints)))
ends_inside Ilp32 Long = ((omega (arith, ints), omega (arith, ints)), (omega (arith, ints), omega (arith, ints)))
ends_inside Ilp32 ULong = ((omega (arith, ints), omega (arith, ints)), (omega (arith, ints), omega (arith, ints)))
ends_inside model Char = ((omega (arith, ints), omega (arith, ints)), (omega (arith, ints), omega (arith, ints)))
ends_inside model SChar = ((omega (arith, ints), omega (arith, ints)), (omega (arith, ints), omega (arith, ints)))
ends_inside model UChar = ((omega (arith, ints), omega (arith, ints)), (omega (arith, ints), omega (arith, ints)))
ends_inside model Short = ((omega (arith, ints), omega (arith, ints)), (omega (arith, ints), omega (arith, ints)))
ends_inside model UShort = ((omega (arith, ints), omega (arith, ints)), (omega (arith, ints), omega (arith, ints)))
ends_inside model Int = ((omega (arith, ints), omega (arith, ints)), (omega (arith, ints), omega (arith, ints)))
ends_inside model UInt = ((omega (arith, ints), omega (arith, ints)), (omega (arith, ints), omega (arith, ints)))
ends_inside model LLong = ((omega (arith, ints), omega (arith, ints)), (omega (arith, ints), omega (arith, ints)))
ends_inside model ULLong = ((omega (arith, ints), omega (arith, ints)), (omega (arith, ints), omega (arith, ints)))
