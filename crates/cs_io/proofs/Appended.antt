-- For the contract of `write_all_of`: with each piece, the prefix of the text that was written grows.
use Rattle.std.proofs.Common.{ℕ, ◌+◌, List, take, drop, append_assoc}
use Rattle.std.proofs.Math.Seq.{take-add}
use Rattle.std.specs.Prelude.{Option, Some, None}
use Rattle.std.specs.Io.KnownBytes.{Appends}

-- the next k bytes after the first n make the first n + k
pub Appends-take_add : (before between now : Option (List ℕ)) (text : List ℕ) (n k : ℕ) → Appends before between (take n text)
    → Appends between now (take k (drop n text)) → Appends before now (take (n + k) text)
Appends-take_add None between now text n k front piece = tt
Appends-take_add (Some xs) None now text n k front piece = absurd front
Appends-take_add (Some xs) (Some ys) None text n k front piece = absurd piece
Appends-take_add (Some xs) (Some ys) (Some zs) text n k front piece = rw (take-add, ← append_assoc, ← front) piece
