use Rattle.std.proofs.Common.{take}
use Rattle.cs_access.specs.Numbers.{IsListing}
use Rattle.cs_access.proofs.reaching.all_numbers.Given as goal

abbrev pub invariant-loop-interval : goal.invariant-loop-interval
invariant-loop-interval l = IsListing (take l.interval-index l.interval-items) l.numbers.items
