-- Candidates by their indices, and what holds for each of them.
use Rattle.std.proofs.Common.{◌≡◌, ◌≢◌, ℕ, zero, suc, ◌+◌, ◌<◌, ◌≤◌, ℤ, false, IsTrue, List, [], ◌∷◌, length, Option, Some, None, IfSome, is_some, slice_get}
use Rattle.std.proofs.Common.{slice_index_or, refl, subst, below_more}
use Rattle.std.proofs.Common.{arith}
use Rattle.std.specs.Option.{unwrap_or}
use Rattle.std.proofs.lemmas.Option.{slice_get_within}
use Rattle.cs_events.specs.declared.operation.Operation.{Operation}
use Rattle.cs_findings.specs.Operands.{operands}
use Rattle.cs_findings.specs.Grounds.{Pair}
use Rattle.cs_judge.specs.declared.choosing.Candidate.{Candidate}
use Rattle.cs_judge.specs.Choosing.{IsCandidate, NamesOther}

-- nothing that implies a yes holds if the answer is no
pub refused : {P : Type 0} → (P → IsTrue false) → P → ⊥
refused f p = let yes : IsTrue false = f p in cc

-- what holds for an option's item holds for the item that is there
pub unwrapped : {A : Type 0} (P : A → Type 0) (found : Option A) (d : A) → IfSome found P → IsTrue (is_some found) → P (unwrap_or found d)
unwrapped P None d h some = absurd (let is : IsTrue false = some in cc)
unwrapped P (Some x) d h some = h

module _ {A : Type 0} where
  -- the item at an index
  pub item_at : (xs : List A) (k : ℕ) (d : A) → k < length xs → slice_get xs k ≡ Some (slice_index_or xs k d)
  item_at [] k d h = absurd (omega arith)
  item_at (y ∷ ys) zero d h = refl
  item_at (y ∷ ys) (suc k) d h = item_at ys k d (omega arith)

  -- what holds for the items before an index, and for the one there, holds before the next index
  pub one_more : (P : A → Type 0) (xs : List A) (k : ℕ) (d : A) → k < length xs
      → ((i : ℕ) (x : A) → i < k → slice_get xs i ≡ Some x → P x) → P (slice_index_or xs k d)
      → (i : ℕ) (x : A) → i < k + 1 → slice_get xs i ≡ Some x → P x
  one_more P xs k d within before here i x h there =
      below_more (λ i. (x : A) → slice_get xs i ≡ Some x → P x) k (λ i h x. before i x h)
      (λ x there. let same : slice_index_or xs k d ≡ x = let e = item_at xs k d within in cc in subst P same here) i h x there

  -- what holds for the items before the end holds for all
  pub of_all : (P : A → Type 0) (xs : List A) (k : ℕ) → length xs ≤ k → ((i : ℕ) (x : A) → i < k → slice_get xs i ≡ Some x → P x)
      → (i : ℕ) (x : A) → slice_get xs i ≡ Some x → P x
  of_all P xs k end before i x there = before i x (omega (arith, slice_get_within xs i x there)) there

module _ (candidates : List Candidate) where
  pub candidate_at : (index : ℕ) (d : Candidate) → index < length candidates
      → IsCandidate candidates (slice_index_or candidates index d).number (slice_index_or candidates index d).pair
  candidate_at index d within = record { place = index; there = item_at candidates index d within }

  pub names_other : (operation : Operation) (operand : Pair → ℤ) (index : ℕ) (d : Candidate) → index < length candidates
      → operand (slice_index_or candidates index d).pair ≢ operand (operands operation)
      → NamesOther candidates operation operand (Some (slice_index_or candidates index d).number)
  names_other operation operand index d within differs =
      record { number = _; is = refl; pair = _; candidate = candidate_at index d within; differs = differs }
