use Rattle.std.proofs.Common.{◌≡◌, ◌+◌, length}
use Rattle.cs_keys.specs.Runs.{bytes_left}
use Rattle.cs_keys.proofs.compared.Left.go_on.Given as goal

abbrev pub decreases-loop-run : goal.decreases-loop-run
decreases-loop-run l = length l.self.later.now + length l.self.last.now

abbrev pub invariant-loop-run : goal.invariant-loop-run
invariant-loop-run l = bytes_left l.self ≡ bytes_left l.fn.self
