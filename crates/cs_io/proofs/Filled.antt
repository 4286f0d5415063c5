-- For the contract of `MemSource::read`: the bytes after those that were filled are unchanged.
use Rattle.std.proofs.Common.{◌≡◌, ℕ, ◌≤◌, List, ◌++◌, length, take, drop, sym, ap, ◌∙◌}
use Rattle.std.proofs.lemmas.List.{drop-append-le, take-append-drop}

-- the items from k up to m, and those from m on, are the items from k on
pub drop-take_append-drop : (xs : List ℕ) (k m : ℕ) → k ≤ length (take m xs) → drop k (take m xs) ++ drop m xs ≡ drop k xs
drop-take_append-drop xs k m within = sym (drop-append-le k (take m xs) (drop m xs) within) ∙ ap (drop k) (take-append-drop m xs)
