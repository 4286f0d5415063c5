use Rattle.std.proofs.Common.{◌≡◌, map, drop}
use Rattle.std.specs.Prelude.{fold}
use Rattle.cs_keys.specs.Live.{live_temporary}
use Rattle.cs_keys.specs.Words.{with_temporary}
use Rattle.cs_keys.proofs.word_list.Key.temporaries.Given as goal

abbrev pub invariant-loop-temporary : goal.invariant-loop-temporary
invariant-loop-temporary l =
    fold with_temporary l.self (map (live_temporary l.constraints) (drop l.temporary-index l.temporaries))
    ≡ fold with_temporary l.initial.self (map (live_temporary l.constraints) l.temporaries)
