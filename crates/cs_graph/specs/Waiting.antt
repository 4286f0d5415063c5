-- Rows that wait, each with a number of visits.
use Rattle.std.specs.Prelude.{◌≡◌, ◌≢◌, ◌↔◌, ◌⊎◌, ◌≤◌, ℕ, List}
use Rattle.std.specs.List.{Contains}

-- the row waits with this many visits
abbrev pub IsWaiting : List (ℕ × ℕ) → ℕ → ℕ → Type 0
IsWaiting waiting visits row = Contains waiting (visits, row)

-- no row waits twice
abbrev pub HasRowsOnce : List (ℕ × ℕ) → Type 0
HasRowsOnce waiting = (visits others row : ℕ) → IsWaiting waiting visits row → IsWaiting waiting others row → visits ≡ others

-- the row is added with this many visits, and all others wait as before
abbrev pub HasJoined : ℕ → ℕ → List (ℕ × ℕ) → List (ℕ × ℕ) → Type 0
HasJoined visits row before after =
    (v r : ℕ) → IsWaiting after v r ↔ (((v ≡ visits) × (r ≡ row)) ⊎ IsWaiting before v r)

-- the row waited, with no more visits than any other, and doesn't wait any more; the others still wait
pub record IsGiven (row : ℕ) (before after : List (ℕ × ℕ)) : Type 0 where
  pub visits : ℕ
  pub waited : IsWaiting before visits row
  pub least : (v r : ℕ) → IsWaiting before v r → visits ≤ v
  pub gone : (v : ℕ) → ¬ IsWaiting after v row
  pub others : (v r : ℕ) → IsWaiting before v r → r ≢ row → IsWaiting after v r
  pub none_more : (v r : ℕ) → IsWaiting after v r → IsWaiting before v r
