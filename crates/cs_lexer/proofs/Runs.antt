-- The longest prefix of bytes that pass a test: for digits, words and white space.
use Rattle.std.proofs.Common.{◌≡◌, Bool, true, false, cond, List, [], ◌∷◌, length, take, refl, sym, ap, subst}
use Rattle.std.specs.List.{list_all, take_while}
use Rattle.std.proofs.lemmas.List.Sums.{take_while-cons}
use Rattle.std.proofs.lemmas.List.Folds.{length-prefix_len}
use Rattle.std.proofs.lemmas.Bool.{and_from}

kept : {X : Type 0} (p : X → Bool) (b : Bool) (x : X) (run : List X) → p x ≡ b → list_all p run ≡ true → list_all p (cond b (x ∷ run) []) ≡ true
kept p true x run is h = and_from (p x) (list_all p run) is h
kept p false x run is h = refl

-- each of them passes
pub run_passes : {X : Type 0} (p : X → Bool) (xs : List X) → list_all p (take_while p xs) ≡ true
run_passes p [] = refl
run_passes p (x ∷ xs) = subst (λ run. list_all p run ≡ true) (sym (take_while-cons p x xs)) (kept p (p x) x (take_while p xs) refl (run_passes p xs))

-- they are the first bytes, as many as there are
pub run_taken : {X : Type 0} (p : X → Bool) (xs : List X) → take (length (take_while p xs)) xs ≡ take_while p xs
run_taken p xs = ap (λ n. take n xs) (length-prefix_len p xs)
