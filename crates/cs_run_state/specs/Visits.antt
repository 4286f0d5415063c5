-- One more visit of a counted point, if the limit allows it.
use Rattle.std.specs.Prelude.{ℕ, ◌+◌, nat_lt, Option, Some, None, slice_get, if◌then◌else◌}
use Rattle.cs_meaning.specs.CountedPoints.{with_visits}
use Rattle.cs_meaning.specs.Machine.{State}

-- the machine with one more visit of a counted point that had this count; none at the limit, or if it has no count
abbrev pub visited_again : ℕ → ℕ → Option ℕ → State → Option State
visited_again limit counted_point None m = None
visited_again limit counted_point (Some count) m = if nat_lt count limit then Some (with_visits counted_point (count + 1) m) else None

-- the machine with one more visit of a counted point, if the limit allows it
abbrev pub visited : ℕ → ℕ → State → Option State
visited limit counted_point m = visited_again limit counted_point (slice_get m.frame.visits counted_point) m
