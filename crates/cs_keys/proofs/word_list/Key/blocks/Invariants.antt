use Rattle.std.proofs.Common.{◌≡◌, ◌+◌, map, length}
use Rattle.std.specs.Prelude.{fold}
use Rattle.std.specs.FinMap as finite
use Rattle.cs_keys.specs.Live.{live_entry}
use Rattle.cs_keys.specs.Words.{with_block}
use Rattle.cs_keys.proofs.word_list.Key.blocks.Given as goal

abbrev pub invariant-loop-base : goal.invariant-loop-base
invariant-loop-base l =
    (fold with_block l.self (map (live_entry l.constraints) l.base-iterator)
    ≡ fold with_block l.initial.self (map (live_entry l.constraints) (finite.entries l.blocks)))
    × (l.count + length l.base-iterator ≡ length (finite.entries l.blocks))
