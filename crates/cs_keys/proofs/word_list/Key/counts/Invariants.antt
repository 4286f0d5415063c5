use Rattle.std.proofs.Common.{◌≡◌, drop}
use Rattle.std.specs.Prelude.{fold}
use Rattle.cs_word_lists.specs.Written.{with_word}
use Rattle.cs_keys.proofs.word_list.Key.counts.Given as goal

abbrev pub invariant-loop-count : goal.invariant-loop-count
invariant-loop-count l = fold with_word l.self (drop l.count-index l.counts) ≡ fold with_word l.initial.self l.counts
