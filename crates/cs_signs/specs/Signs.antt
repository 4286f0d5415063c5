-- Comparisons with 0: the opposite of each, and whether the ends of an interval decide it for all its numbers.
use Rattle.std.specs.Prelude.{◌≡◌, Bool, true, false, ◌||◌, pos, int_le, int_lt, Option, None, Some}
use Rattle.cs_ranges.specs.declared.range_set.Interval.{Interval}
use Rattle.cs_ast.specs.declared.typed.operator.CmpOp.{CmpOp}
use Rattle.cs_ast.specs.declared.typed.operator.CmpOp.TheVariants.{Less, AtMost, More, AtLeast, Equal, Differs}

-- the comparison that holds exactly if this one doesn't
abbrev pub opposite_of : CmpOp → CmpOp
opposite_of Less = AtLeast
opposite_of AtMost = More
opposite_of More = AtMost
opposite_of AtLeast = Less
opposite_of Equal = Differs
opposite_of Differs = Equal

-- whether the ends show that the comparison with 0 holds for all numbers between them; for `==` they never do
abbrev pub holds_between : CmpOp → Interval → Bool
holds_between Less ends = int_lt ends.high (pos 0)
holds_between AtMost ends = int_le ends.high (pos 0)
holds_between More ends = int_lt (pos 0) ends.low
holds_between AtLeast ends = int_le (pos 0) ends.low
holds_between Equal ends = false
holds_between Differs ends = int_lt (pos 0) ends.low || int_lt ends.high (pos 0)

-- whether the comparison with 0 holds for all numbers between the ends, or for none, or the ends don't decide
abbrev pub IsSignBetween : CmpOp → Interval → Option Bool → Type 0
IsSignBetween op ends None = (holds_between op ends ≡ false) × (holds_between (opposite_of op) ends ≡ false)
IsSignBetween op ends (Some true) = holds_between op ends ≡ true
IsSignBetween op ends (Some false) = holds_between (opposite_of op) ends ≡ true
