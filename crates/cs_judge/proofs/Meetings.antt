-- What the judge finds in another run makes it a partner.
use Rattle.std.proofs.Common.{◌≡◌, ℕ, zero, suc, ◌<◌, List, [], ◌∷◌, length, Option, Some, None, IfSome, slice_get, sym, arith}
use Rattle.cs_findings.specs.Operands.{with_operands}
use Rattle.cs_findings.specs.Grounds.{Pair}
use Rattle.cs_judge.specs.declared.judging.Spot.{Spot}
use Rattle.cs_judge.specs.declared.pool.Replay.{Replay}
use Rattle.cs_judge.specs.declared.pool.Kept.TheVariants.{Operates}
use Rattle.cs_judge.specs.Certificates.{IsMet, IsSpotAt, ComesAlong}
use Rattle.cs_judge.proofs.Places.{same_beginning}
use Rattle.cs_judge.proofs.ListedGuesses.{listed_alike}

-- the index of an item that was found is below the length
pub is_there : {A : Type 0} (xs : List A) (n : ℕ) (x : A) → slice_get xs n ≡ Some x → n < length xs
is_there [] n x h = cc
is_there (y ∷ ys) zero x h = omega arith
is_there (y ∷ ys) (suc n) x h = let a = is_there ys n x h in omega arith

pub same_item : {A : Type 0} (x y : A) → Some x ≡ Some y → x ≡ y
same_item x y e = cc

pub if_some : {A : Type 0} {P Q : A → Type 0} (found : Option A) → ((x : A) → P x → Q x) → IfSome found P → IfSome found Q
if_some None f h = tt
if_some (Some x) f h = f x h

pub met : (pool : List Replay) (mine other : Replay) (spot : Spot) (number : ℕ) → slice_get pool number ≡ Some other → IsSpotAt mine spot.place spot
    → ComesAlong mine spot other → (pair : Pair)
    → slice_get other.kept.items spot.passed ≡ Some (Operates spot.at (with_operands spot.operation pair))
    → IsMet pool mine spot.guess spot.passed spot.at spot.operation number pair
met pool mine other spot number there notes along pair kept = record {
  other = other;
  there = there;
  listed = listed_alike spot.place spot.guess.event mine.run.guesses.items other.run.guesses.items notes.before along.listed;
  enough = along.enough;
  agree = sym (same_beginning mine.events.items other.events.items spot.passed along.agree);
  kept = kept;
}
