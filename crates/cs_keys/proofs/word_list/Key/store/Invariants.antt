use Rattle.std.proofs.Common.{◌≡◌, ◌+◌, map, length}
use Rattle.std.specs.Prelude.{fold}
use Rattle.cs_store.specs.Held.{regions_of}
use Rattle.cs_keys.specs.Live.{live_region}
use Rattle.cs_keys.specs.Words.{with_region}
use Rattle.cs_keys.proofs.word_list.Key.store.Given as goal

abbrev pub invariant-loop-base : goal.invariant-loop-base
invariant-loop-base l =
    (fold with_region l.self (map (live_region l.constraints) l.base-iterator)
    ≡ fold with_region l.initial.self (map (live_region l.constraints) (regions_of l.store)))
    × (l.count + length l.base-iterator ≡ length (regions_of l.store))
