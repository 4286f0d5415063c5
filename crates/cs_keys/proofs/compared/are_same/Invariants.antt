use Rattle.std.proofs.Common.{◌≡◌, length, nat_eq}
use Rattle.std.specs.Cmp.Lexicographic.{pointwise}
use Rattle.cs_keys.specs.Runs.{bytes_left}
use Rattle.cs_keys.proofs.compared.are_same.Given as goal

abbrev pub decreases-loop-one : goal.decreases-loop-one
decreases-loop-one l = length (bytes_left l.one)

abbrev pub invariant-loop-one : goal.invariant-loop-one
invariant-loop-one l = pointwise nat_eq (bytes_left l.one) (bytes_left l.other) ≡ pointwise nat_eq (bytes_left l.fn.one) (bytes_left l.fn.other)
