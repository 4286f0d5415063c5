-- Counts of faults and of empty takes: numbers from 0 to 2^64 - 1 that never decrease.
use Rattle.std.specs.Prelude.{◌≡◌, ℕ, ◌+◌, ◌-◌, ◌^◌, ◌<◌, ◌≤◌, ◌⊎◌, ◌==◌, min, if◌then◌else◌}

-- a count after a call: it didn't decrease, and is less than 2^64
abbrev pub CountsUp : (before now : ℕ) → Type 0
CountsUp before now = (before ≤ now) × (now < 2 ^ 64)

-- a count increased in a call, or it has its last value
abbrev pub Rose : (before now : ℕ) → Type 0
Rose before now = (before < now) ⊎ (now ≡ 2 ^ 64 - 1)

-- the next count: one more, unless it has its last value
abbrev pub next_count : ℕ → ℕ
next_count count = min (count + 1) (2 ^ 64 - 1)

-- the count of empty takes after a call that took this many bytes
abbrev pub empty_takes_after : (taken count : ℕ) → ℕ
empty_takes_after taken count = if taken == 0 then next_count count else count
