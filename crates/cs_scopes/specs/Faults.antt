-- Which of several faults is reported: that at the first position in the order of tokens, and of those at one position the least code.
use Rattle.std.specs.Prelude.{nat_le, if◌then◌else◌, Option, Some, None}
use Rattle.cs_ast.specs.declared.place.Place.{Place}
use Rattle.cs_scopes.specs.declared.refusal.TypeCode.{TypeCode}
use Rattle.cs_scopes.specs.Verdicts.{Verdict, Fine, Fault, number_of}

-- the lesser of two codes
abbrev pub lesser : TypeCode → TypeCode → TypeCode
lesser code other = if nat_le (number_of code) (number_of other) then code else other

-- the lesser of a code and another one, if there is another
abbrev pub least : TypeCode → Option TypeCode → TypeCode
least code (Some other) = lesser code other
least code None = code

-- the least of the codes at one position
abbrev pub least_code : Option TypeCode → Option TypeCode → Option TypeCode
least_code None other = other
least_code (Some code) other = Some (least code other)

-- the code with which a verdict refuses
abbrev pub code_in : {A : Type 0} → Verdict A → Option TypeCode
code_in (Fine value) = None
code_in (Fault code place) = Some code

-- a verdict on what follows a position: a code at the position is reported before it
abbrev pub unless_fault : {A : Type 0} → Place → Option TypeCode → Verdict A → Verdict A
unless_fault at None v = v
unless_fault at (Some code) v = Fault code at

-- a verdict, unless an earlier part is refused
abbrev pub unless_stopped : {A : Type 0} → Option (TypeCode × Place) → Verdict A → Verdict A
unless_stopped None v = v
unless_stopped (Some refusal) v = Fault refusal.0 refusal.1
