use Rattle.std.proofs.Common.{pos, ◌+ℤ◌, ◌-ℤ◌, ◌≤ℤ◌, unsigned_abs}
use Rattle.cs_access.proofs.Ascending.{AreSoFar}
use Rattle.cs_access.proofs.reaching.push_numbers.Given as goal

abbrev pub invariant-loop-number : goal.invariant-loop-number
invariant-loop-number l = record {
  from : l.interval.low ≤ℤ l.number;
  upto : l.number ≤ℤ (l.interval.high +ℤ pos 1);
  so_far : AreSoFar l.fn.numbers.items l.interval.low l.number l.numbers.items;
}

abbrev pub decreases-loop-number : goal.decreases-loop-number
decreases-loop-number l = unsigned_abs ((l.interval.high +ℤ pos 1) -ℤ l.number)
