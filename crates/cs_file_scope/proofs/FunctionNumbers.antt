-- The number of a function is its index in the order of functions: for the functions of files.
use Rattle.std.proofs.Common.{◌≡◌, ℕ, ◌≤◌, Bool, true, false, cond, List, length, Some, None, refl, arith}
use Rattle.std.specs.Prelude.{nat_lt}
use Rattle.std.specs.Option.{unwrap_or}
use Rattle.std.specs.List.{position, position_or_len}
use Rattle.std.proofs.lemmas.Bool.{ltb-false}
use Rattle.std.proofs.lemmas.List.Sums.{prefix_len-le-length}

by_test : (place many : ℕ) (b : Bool) → nat_lt place many ≡ b → place ≤ many → unwrap_or (cond b (Some place) None) many ≡ place
by_test place many true e within = refl
by_test place many false e within = omega (arith, within, ltb-false place many e)

-- the first index that passes, or the length if none does
pub place_or_length : {X : Type 0} (test : X → Bool) (xs : List X) → unwrap_or (position test xs) (length xs) ≡ position_or_len test xs
place_or_length test xs = by_test (position_or_len test xs) (length xs) _ refl (prefix_len-le-length _ xs)
