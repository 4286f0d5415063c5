use Rattle.std.proofs.Common.{◌≡◌, map, drop}
use Rattle.std.specs.Prelude.{fold}
use Rattle.cs_keys.specs.Live.{live_read}
use Rattle.cs_keys.specs.Words.{with_read}
use Rattle.cs_keys.proofs.word_list.Key.read_cells.Given as goal

abbrev pub invariant-loop-cell : goal.invariant-loop-cell
invariant-loop-cell l =
    fold with_read l.self (map (live_read l.constraints) (drop l.cell-index l.cells))
    ≡ fold with_read l.initial.self (map (live_read l.constraints) l.cells)
