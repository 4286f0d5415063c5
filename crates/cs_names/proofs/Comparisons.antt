-- What `==` and `cmp` of names and texts imply for their bytes: for the crates above that compare them.
use Rattle.std.proofs.Common.{◌≡◌, ℕ, List, true}
use Rattle.std.specs.Prelude.{nat_eq}
use Rattle.std.specs.Cmp.Lexicographic.{pointwise, slice_cmp, bytes_decides, texts_ties}
use Rattle.std.specs.Ordering.{nat_cmp}
use Rattle.std.specs.declared.cmp.Ordering.TheVariants.{Equal}

-- equal names have the same bytes
pub same_bytes : (xs ys : List ℕ) → pointwise nat_eq xs ys ≡ true → xs ≡ ys
same_bytes xs ys = (bytes_decides xs ys).0

-- names with the same bytes are equal
pub equal_to_same : (xs ys : List ℕ) → xs ≡ ys → pointwise nat_eq xs ys ≡ true
equal_to_same xs ys = (bytes_decides xs ys).1

-- names that the order doesn't distinguish have the same bytes
pub tied_bytes : (xs ys : List ℕ) → slice_cmp nat_cmp xs ys ≡ Equal → xs ≡ ys
tied_bytes xs ys tied = same_bytes xs ys (rw (texts_ties, tied))
