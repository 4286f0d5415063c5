-- The words of a set of numbers: both ends of each interval, the number of intervals, and 1, which isn't a word of an undeclared symbol.
use Rattle.std.specs.Prelude.{ℕ, List, []}
use Rattle.cs_word_lists.specs.Written.{with_word, with_integer, with_list}
use Rattle.cs_ranges.specs.declared.range_set.Interval.{Interval}

abbrev pub with_interval : List ℕ → Interval → List ℕ
with_interval words interval = with_integer (with_integer words interval.low) interval.high

-- words, followed by those of a set
abbrev pub with_numbers : List ℕ → List Interval → List ℕ
with_numbers words set = with_word (with_list with_interval words set) 1

abbrev pub set_words : List Interval → List ℕ
set_words set = with_numbers [] set
