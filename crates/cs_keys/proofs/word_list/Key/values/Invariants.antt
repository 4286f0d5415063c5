use Rattle.std.proofs.Common.{◌≡◌, map, drop}
use Rattle.std.specs.Prelude.{fold}
use Rattle.cs_keys.specs.Live.{live_value}
use Rattle.cs_keys.specs.Words.{with_value}
use Rattle.cs_keys.proofs.word_list.Key.values.Given as goal

abbrev pub invariant-loop-value : goal.invariant-loop-value
invariant-loop-value l =
    fold with_value l.self (map (live_value l.constraints) (drop l.value-index l.values))
    ≡ fold with_value l.initial.self (map (live_value l.constraints) l.values)
