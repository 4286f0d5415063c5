-- Which operations are faults of which kind.
use Rattle.std.specs.Prelude.{Bool, true, false, not, ◌&&◌, ◌||◌, ℤ, pos, int_lt, int_le}
use Rattle.std.specs.Ordering.{int_eq}
use Rattle.cs_model.specs.declared.kind.Kind.{Kind}
use Rattle.cs_model.specs.declared.kind.Kind.TheVariants as kind
use Rattle.cs_model.specs.declared.standing.Standing.{Standing}
use Rattle.cs_model.specs.declared.standing.Standing.TheVariants as standing
use Rattle.cs_model.specs.declared.standing.Freeable.{Freeable}
use Rattle.cs_model.specs.declared.standing.Freeable.TheVariants as freeable
use Rattle.cs_terms.specs.Term.{Valuation, value_of, value_of_sum}
use Rattle.cs_ranges.specs.Interval.{IsInside}
use Rattle.cs_checker.specs.declared.subject.Subject.{Subject}
use Rattle.cs_checker.specs.declared.subject.Subject.TheVariants.{Through, Move, Divisor, Cell, Rest, Slot, Release, Reached, Shift, Pair, Written}

-- whether an access ends in this kind of fault, depending on the standing of its object
abbrev pub is_fault_at : Kind → Standing → Bool
is_fault_at kind.Freed standing.Freed = true
is_fault_at kind.DeadLocal standing.Ended = true
is_fault_at other standing = false

-- whether `free` ends in this kind of fault, depending on what is freed and on the offset in it
abbrev pub is_fault_of_free : Kind → Freeable → ℤ → Bool
is_fault_of_free kind.DoubleFree freeable.Freed offset = true
is_fault_of_free kind.BadFree freeable.Fixed offset = true
is_fault_of_free kind.BadFree freeable.Live offset = not (int_eq offset (pos 0))
is_fault_of_free other block offset = false

-- whether an operation ends in this kind of fault if the symbols have these numbers
abbrev pub is_faulty_for : Kind → Subject → Valuation → Bool
is_faulty_for kind.Null (Through null) numbers = null
is_faulty_for kind.Null (Move null amount) numbers = null && not (int_eq (value_of numbers amount) (pos 0))
is_faulty_for kind.Divide (Divisor term) numbers = int_eq (value_of numbers term) (pos 0)
is_faulty_for kind.Unset (Cell unset) numbers = unset
is_faulty_for kind.Bounds (Rest term) numbers = int_lt (value_of_sum numbers term) (pos 0)
is_faulty_for kind.Bounds (Slot fits) numbers = not fits
is_faulty_for kind.Freed (Reached standing) numbers = is_fault_at kind.Freed standing
is_faulty_for kind.DeadLocal (Reached standing) numbers = is_fault_at kind.DeadLocal standing
is_faulty_for kind.DoubleFree (Release block offset) numbers = is_fault_of_free kind.DoubleFree block (value_of numbers offset)
is_faulty_for kind.BadFree (Release block offset) numbers = is_fault_of_free kind.BadFree block (value_of numbers offset)
is_faulty_for kind.Shift (Shift count width) numbers =
    int_lt (value_of numbers count) (pos 0) || int_le (pos width) (value_of numbers count)
is_faulty_for kind.Unrelated (Pair same) numbers = not same
is_faulty_for kind.ConstWrite (Written constant) numbers = constant
is_faulty_for other subject numbers = false

-- the terms of an operation have values from -2^126 to 2^126
abbrev pub HasValues : Subject → Valuation → Type 0
HasValues (Move null amount) numbers = IsInside (value_of numbers amount)
HasValues (Divisor term) numbers = IsInside (value_of numbers term)
HasValues (Rest term) numbers = IsInside (value_of_sum numbers term)
HasValues (Release block offset) numbers = IsInside (value_of numbers offset)
HasValues (Shift count width) numbers = IsInside (value_of numbers count)
HasValues other numbers = Unit {0}
