use Rattle.std.proofs.Common.{◌≡◌, map, length}
use Rattle.std.specs.Prelude.{fold}
use Rattle.cs_keys.specs.Live.{live_frame}
use Rattle.cs_keys.specs.Words.{with_frame}
use Rattle.cs_keys.proofs.word_list.Key.callers.Given as goal

abbrev pub decreases-loop-rest : goal.decreases-loop-rest
decreases-loop-rest l = length l.rest

abbrev pub invariant-loop-rest : goal.invariant-loop-rest
invariant-loop-rest l =
    fold with_frame l.self (map (live_frame l.constraints) l.rest) ≡ fold with_frame l.initial.self (map (live_frame l.constraints) l.callers)
