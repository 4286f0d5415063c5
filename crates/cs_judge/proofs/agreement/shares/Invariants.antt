use Rattle.std.proofs.Common.{◌≡◌, length}
use Rattle.cs_judge.specs.Agreement.{AreShares}
use Rattle.cs_judge.proofs.agreement.shares.Given as goal

abbrev pub invariant-loop-replay : goal.invariant-loop-replay
invariant-loop-replay l = record { count : length l.shares.items ≡ l.replay-index; are_shares : AreShares l.shown l.pool l.shares.items }
