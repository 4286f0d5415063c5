-- Declarations that are removed one by one, and declared again: for the scope of parameters that becomes that of a body.
use Rattle.std.proofs.Common.{◌≡◌, ℕ, ◌<◌, ◌≤◌, List, [], ◌∷◌, ◌++◌, map, length, take, drop, reverse, sym, ap, ◌∙◌, arith}
use Rattle.std.proofs.Common.{append_assoc, length-append}
use Rattle.std.proofs.lemmas.List.{reverse-append, append_cancel_left, take-append-drop, take-append-le, take_all}

-- the last element of a list is the first in reverse
pub moved : {X Y : Type 0} (f : X → Y) (ys : List Y) (xs : List X) (x : X)
    → ys ++ map f (reverse (xs ++ x ∷ [])) ≡ (ys ++ f x ∷ []) ++ map f (reverse xs)
moved f ys xs x = ap (λ l. ys ++ map f l) (reverse-append xs (x ∷ [])) ∙ sym (append_assoc ys (f x ∷ []) (map f (reverse xs)))

-- one more is removed: together with those removed before, they are the whole list
pub one_taken : {X Y : Type 0} (f : X → Y) (before left whole : List Y) (taken now : List X) (x : X) → before ++ map f (reverse taken) ≡ whole
    → before ≡ left ++ f x ∷ [] → now ≡ taken ++ x ∷ [] → left ++ map f (reverse now) ≡ whole
one_taken f before left whole taken now x so_far split push =
    ap (λ l. left ++ map f (reverse l)) push ∙ moved f left taken x ∙ ap (λ l. l ++ map f (reverse taken)) (sym split) ∙ so_far

-- the part before an index stays the same while only elements after it are removed
pub kept : {Y : Type 0} (outer : ℕ) (before left : List Y) (y : Y) → outer < length before → before ≡ left ++ y ∷ []
    → take outer left ≡ take outer before
kept outer before left y more split =
    sym (take-append-le outer left (y ∷ []) (omega (arith, more, ap length split, length-append left (y ∷ [])))) ∙ ap (take outer) (sym split)

-- all elements after an index are removed
pub all_left : {Y : Type 0} (outer : ℕ) (now whole : List Y) → length now ≤ outer → take outer now ≡ take outer whole → now ≡ take outer whole
all_left outer now whole few same = sym (take_all outer now few) ∙ same

pub all_taken : {Y : Type 0} (outer : ℕ) (now whole rest : List Y) → now ≡ take outer whole → now ++ rest ≡ whole → rest ≡ drop outer whole
all_taken outer now whole rest left all =
    append_cancel_left (take outer whole) rest (drop outer whole) (ap (λ l. l ++ rest) (sym left) ∙ all ∙ sym (take-append-drop outer whole))
