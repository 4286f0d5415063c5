-- Lists that are stored with their first element last: for the contracts of `Machine`.
use Rattle.std.proofs.Common.{◌≡◌, ℕ, zero, suc, ◌+◌, List, [], ◌∷◌, ◌++◌, map, drop, reverse, refl, ap, ◌∙◌, arith}
use Rattle.std.specs.Prelude.{slice_get}
use Rattle.std.proofs.lemmas.List.{reverse-append}
use Rattle.cs_meaning.specs.Machine.{Operand, State, with_stack, pop, pop_many}
use Rattle.cs_objects.proofs.Pushing.{map-push}

-- an element appended to a list is the first one of the reversed list
pub reverse-map-push : {A B : Type 0} (f : A → B) (xs : List A) (x : A) → reverse (map f (xs ++ x ∷ [])) ≡ f x ∷ reverse (map f xs)
reverse-map-push f xs x = ap reverse (map-push f xs x) ∙ reverse-append (map f xs) (f x ∷ [])

-- the elements after the first ones of a list
pub slice_get-drop : {A : Type 0} (xs : List A) (n k : ℕ) → slice_get (drop n xs) k ≡ slice_get xs (n + k)
slice_get-drop [] zero k = grind arith
slice_get-drop [] (suc n) k = refl
slice_get-drop (x ∷ xs) zero k = grind arith
slice_get-drop (x ∷ xs) (suc n) k = grind (arith, slice_get-drop xs n k)

-- the machine without its two newest operands
pub pop-pop : (m : State) → pop (pop m) ≡ pop_many 2 m
pop-pop m = ap (λ stack. with_stack stack m) (twice m.frame.stack)
  where
    twice : (xs : List Operand) → drop 1 (drop 1 xs) ≡ drop 2 xs
    twice [] = refl
    twice (x ∷ xs) = refl

-- the machine without its newest operand, and then without n more
pub pop-many : (n : ℕ) (m : State) → pop_many n (pop m) ≡ pop_many (suc n) m
pop-many n m = ap (λ stack. with_stack stack m) (following n m.frame.stack)
  where
    following : (k : ℕ) (xs : List Operand) → drop k (drop 1 xs) ≡ drop (suc k) xs
    following zero [] = refl
    following (suc k) [] = refl
    following k (x ∷ xs) = refl

pub ruleset states = (reverse-map-push, slice_get-drop)
