-- Candidates and partners that are found one after another.
use Rattle.std.proofs.Common.{◌≡◌, inl, inr, ℕ, zero, suc, ◌+◌, ◌<◌, List, [], ◌∷◌, ◌++◌, length, None, Some, slice_get, refl, sym, ap, ◌∙◌, subst, below_more}
use Rattle.std.proofs.Common.{arith}
use Rattle.std.proofs.lemmas.List.{length-append}
use Rattle.cs_findings.specs.Grounds.{Pair}
use Rattle.cs_compared.specs.Guessable.{IsGuessable}
use Rattle.cs_judge.specs.declared.choosing.Candidate.{Candidate}
use Rattle.cs_judge.specs.declared.judging.Judge.{Judge}
use Rattle.cs_judge.specs.declared.judging.Spot.{Spot}
use Rattle.cs_judge.specs.declared.pool.Replay.{Replay}
use Rattle.cs_judge.specs.Choosing.{IsCandidate}
use Rattle.cs_judge.specs.Partnering.{Meets, AreCandidatesBelow}
use Rattle.cs_judge.proofs.Places.{end_or_before}

module _ {A : Type 0} where
  -- an item keeps its index if others are added at the end
  still_there : (xs ys : List A) (n : ℕ) (x : A) → slice_get xs n ≡ Some x → slice_get (xs ++ ys) n ≡ Some x
  still_there [] ys n x h = absurd (let e : None ≡ Some x = h in cc)
  still_there (y ∷ xs) ys zero x h = h
  still_there (y ∷ xs) ys (suc n) x h = still_there xs ys n x h

  last_there : (xs : List A) (x : A) → slice_get (xs ++ x ∷ []) (length xs) ≡ Some x
  last_there [] x = refl
  last_there (y ∷ xs) x = last_there xs x

  -- a list has an item at each index below its length
  pub some_item : (xs : List A) (k : ℕ) → k < length xs → (x : A) × (slice_get xs k ≡ Some x)
  some_item [] k h = absurd (omega arith)
  some_item (y ∷ ys) zero h = (y, refl)
  some_item (y ∷ ys) (suc k) h = some_item ys k (omega arith)

  -- a list of this length, for whose items a predicate of their indices holds
  pub record AreAt (P : ℕ → A → Type 0) (number : ℕ) (xs : List A) : Type 0 where
    pub count : length xs ≡ number
    pub each : (n : ℕ) (x : A) → slice_get xs n ≡ Some x → P n x

  pub put : (P : ℕ → A → Type 0) (count : ℕ) (xs new : List A) (x : A) → new ≡ xs ++ x ∷ [] → AreAt P count xs → P count x
      → AreAt P (count + 1) new
  put P count xs new x made are more = record {
    count = ap length made ∙ length-append xs (x ∷ []) ∙ (let is = are.count in omega arith);
    each = λ n y there. elim (end_or_before xs x y n (ap (λ l. slice_get l n) (sym made) ∙ there)) [
      | inl h ↦ are.each n y h
      | inr h ↦ subst (λ m. P m y) (sym (h.0 ∙ are.count)) (subst (P count) h.1 more)
    ];
  }

module _ (judge : Judge) (mine : Replay) (spot : Spot) where
  pub pushed : (n : ℕ) (candidates new : List Candidate) (pair : Pair) → new ≡ candidates ++ record { number = n; pair = pair } ∷ []
      → AreCandidatesBelow judge mine spot n candidates → Meets judge mine spot n pair
      → ((other : Pair) → IsGuessable spot.operation → Meets judge mine spot n other → Some pair ≡ Some other)
      → AreCandidatesBelow judge mine spot (n + 1) new
  pushed n candidates new pair made are meets only = record {
    meet = λ number other candidate.
        let last : Candidate = record { number = n; pair = pair } in
        let one : Candidate = record { number = number; pair = other } in
        elim (end_or_before candidates last one candidate.place (ap (λ l. slice_get l candidate.place) (sym made) ∙ candidate.there)) [
          | inl h ↦ are.meet number other (record { place = candidate.place; there = h })
          | inr h ↦ subst (λ (it : Candidate). Meets judge mine spot it.number it.pair) h.1 meets
        ];
    all = λ able number other below it.
        below_more (λ k. (other : Pair) → Meets judge mine spot k other → IsCandidate new k other) n
        (λ k h other it. let before = are.all able k other h it in
        record { place = before.place; there = ap (λ l. slice_get l before.place) made ∙ still_there candidates _ before.place _ before.there })
        (λ other it. let same : pair ≡ other = let e = only other able it in cc in
        subst (IsCandidate new n) same (record {
          place = length candidates;
          there = ap (λ l. slice_get l (length candidates)) made ∙ last_there candidates (record { number = n; pair = pair });
        }))
        number below other it;
  }

  pub passed_over : (n : ℕ) (candidates : List Candidate) → AreCandidatesBelow judge mine spot n candidates
      → ((other : Pair) → IsGuessable spot.operation → Meets judge mine spot n other → None ≡ Some other)
      → AreCandidatesBelow judge mine spot (n + 1) candidates
  passed_over n candidates are none = record {
    meet = are.meet;
    all = λ able number other below it.
        below_more (λ k. (other : Pair) → Meets judge mine spot k other → IsCandidate candidates k other) n
        (λ k h other it. are.all able k other h it) (λ other it. absurd (let e : None ≡ Some other = none other able it in cc)) number below other it;
  }
