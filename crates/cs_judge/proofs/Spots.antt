-- The judge's notes about a guess, and what proves it.
use Rattle.std.proofs.Common.{◌≡◌, ◌≢◌, ◌⊎◌, inl, inr, ℕ, suc, ◌<◌, ◌≤◌, ℤ, IsTrue, List, length, map, Option, None, Some, option_map, slice_get, refl, sym, ap}
use Rattle.std.proofs.Common.{◌∙◌, subst}
use Rattle.std.proofs.lemmas.Option.{slice_get-map, slice_get_within}
use Rattle.cs_types.specs.declared.data_model.DataModel.{DataModel}
use Rattle.cs_ast.specs.declared.place.Place.{Place}
use Rattle.cs_events.specs.declared.guess.Guess.{Guess}
use Rattle.cs_events.specs.declared.operation.Operation.{Operation}
use Rattle.cs_events.specs.declared.operation.Operation.TheVariants.{Binary, Unary, Convert, Compare, Order, Product, Sum, Difference, Show}
use Rattle.cs_results.specs.declared.run.Others.{Others}
use Rattle.cs_results.specs.declared.run.Others.TheVariants.{One, Two}
use Rattle.cs_findings.specs.Runs.{AllRelated}
use Rattle.cs_findings.specs.Operands.{operands, with_operands}
use Rattle.cs_findings.specs.Grounds.{Pair, has_ground}
use Rattle.cs_findings.specs.Narrower.{may_be_used, fits_left, fits_right}
use Rattle.cs_compared.specs.Computable.{IsComputable}
use Rattle.cs_compared.specs.Guessable.{IsGuessable}
use Rattle.cs_compared.specs.Wide.{IsSmall, AreSmall}
use Rattle.cs_judge.specs.declared.choosing.Candidate.{Candidate}
use Rattle.cs_judge.specs.declared.judging.Spot.{Spot}
use Rattle.cs_judge.specs.declared.pool.Partners.{Partners}
use Rattle.cs_judge.specs.declared.pool.Replay.{Replay}
use Rattle.cs_judge.specs.declared.pool.Kept.TheVariants.{Operates}
use Rattle.cs_compared.specs.Agreement.{AgreeTo}
use Rattle.cs_judge.specs.Agreement.{AreAtEvents}
use Rattle.cs_judge.specs.Certificates.{IsMet, IsJudged, IsSpotAt, ComesAlong, KeepsWith}
use Rattle.cs_judge.specs.Choosing.{IsGround, IsCandidate, GivesGround, NamesOther}
use Rattle.cs_judge.specs.Proving.{Bare, bare, IsGuessedAt, IsPartner, HasOther, ProvesGuess, HasProof}
use Rattle.cs_judge.proofs.Meetings.{met}

-- an operation that has a ground is one that may be guessed
pub guessable : (model : DataModel) (operation : Operation) (pairs : Others Pair) → IsTrue (has_ground model operation pairs) → IsGuessable operation
guessable model (Binary operator ty left right) pairs h = tt
guessable model (Unary operator ty operand) pairs h = absurd (let g : IsTrue _ = h in cc)
guessable model (Convert ty number) pairs h = tt
guessable model (Compare operator left right) pairs h = tt
guessable model (Order first second) pairs h = tt
guessable model (Product count size) pairs h = tt
guessable model (Sum offset amount size) pairs h = tt
guessable model (Difference left right size) pairs h = tt
guessable model (Show what) pairs h = absurd (let g : IsTrue _ = h in cc)

module _ {A B : Type 0} (R S : A → B → Type 0) (f : (a : A) (b : B) → R a b → S a b) where
  pub all_related : (xs : Others A) (ys : Others B) → AllRelated R xs ys → AllRelated S xs ys
  all_related (One x) (One y) r = f x y r
  all_related (Two x x') (Two y y') r = (f x y r.0, f x' y' r.1)
  all_related (One x) (Two y y') r = absurd r
  all_related (Two x x') (One y) r = absurd r

-- the partners of the first of two, and of the second
module _ {A B : Type 0} (R : A → B → Type 0) (x x' : A) where
  pub first_of : (ys : Others B) → AllRelated R (Two x x') ys → (y : B) × R x y
  first_of (One y) r = absurd r
  first_of (Two y y') r = (y, r.0)

  pub second_of : (ys : Others B) → AllRelated R (Two x x') ys → (y : B) × R x' y
  second_of (One y) r = absurd r
  second_of (Two y y') r = (y', r.1)

-- a replay of the pool without its inputs and its partners
pub bare_at : (pool : List Replay) (number : ℕ) (replay : Replay) → slice_get pool number ≡ Some replay
    → slice_get (map bare pool) number ≡ Some (bare replay)
bare_at pool number replay there = slice_get-map bare pool number ∙ ap (option_map bare) there

pub record IsOf (pool : List Replay) (number : ℕ) (it : Bare) : Type 0 where
  pub replay : Replay
  pub there : slice_get pool number ≡ Some replay
  pub same : bare replay ≡ it

of_some : (pool : List Replay) (number : ℕ) (it : Bare) (at : Option Replay) → slice_get pool number ≡ at → option_map bare at ≡ Some it
    → IsOf pool number it
of_some pool number it None e h = absurd (let g : None ≡ Some it = h in cc)
of_some pool number it (Some replay) e h = record { replay = replay; there = e; same = let g : Some (bare replay) ≡ Some it = h in cc }

pub of_bare : (pool : List Replay) (number : ℕ) (it : Bare) → slice_get (map bare pool) number ≡ Some it → IsOf pool number it
of_bare pool number it there = of_some pool number it (slice_get pool number) refl (sym (slice_get-map bare pool number) ∙ there)

pub within_pool : (pool : List Replay) (number : ℕ) (it : Bare) → slice_get (map bare pool) number ≡ Some it → number < length pool
within_pool pool number it there = let is = of_bare pool number it there in slice_get_within pool number is.replay is.there

module _ (pool : List Replay) (mine : Replay) (spot : Spot) where
  -- another replay reaches the operation of the notes too
  abbrev pub Partner : ℕ → Pair → Type 0
  Partner = IsPartner (map bare pool) (bare mine) spot.place spot.passed spot.at spot.operation

  abbrev Other : (Pair → ℤ) → Option ℕ → Type 0
  Other = HasOther (map bare pool) (bare mine) spot.place spot.passed spot.at spot.operation

  pub partner : (other : Replay) (number : ℕ) → slice_get pool number ≡ Some other → ComesAlong mine spot other → (pair : Pair)
      → KeepsWith other spot pair → Partner number pair
  partner other number there along pair keeps = record {
    other = bare other;
    there = bare_at pool number other there;
    listed = along.listed;
    enough = along.enough;
    agree = along.agree;
    kept = keeps.kept;
    same = keeps.same;
  }

  pub partner_comes : (other : Replay) (number : ℕ) → slice_get pool number ≡ Some other → (pair : Pair) → Partner number pair
      → ComesAlong mine spot other × KeepsWith other spot pair
  partner_comes other number there pair it =
      let same : it.other ≡ bare other = let e : Some it.other ≡ Some (bare other) = sym it.there ∙ bare_at pool number other there in cc in (
        record {
          listed = subst (λ (other : Bare). AreAtEvents spot.place mine.run.guesses.items other.guesses) same it.listed;
          enough = subst (λ (other : Bare). spot.passed ≤ length other.events) same it.enough;
          agree = subst (λ (other : Bare). AgreeTo spot.passed mine.events.items other.events) same it.agree;
        },
        record {
          kept = subst (λ (other : Bare). slice_get other.kept spot.passed ≡ Some (Operates spot.at (with_operands spot.operation pair))) same it.kept;
          same = it.same;
        },
      )

  module _ (notes : IsSpotAt mine spot.place spot) where
    pub is_met : (number : ℕ) (pair : Pair) → Partner number pair → IsMet pool mine spot.guess spot.passed spot.at spot.operation number pair
    is_met number pair it =
        let is = of_bare pool number it.other it.there in
        let comes = partner_comes is.replay number is.there pair it in
        met pool mine is.replay spot number is.there notes comes.0 pair comes.1.kept

    -- partners that prove the guess make it pass the judge
    pub judged : (model : DataModel) (partners : Partners) (pairs : Others Pair) → slice_get mine.partners.items spot.place ≡ Some partners
        → AllRelated Partner partners.others pairs → IsTrue (has_ground model spot.operation pairs)
        → IsTrue (may_be_used model spot.operation spot.guess.number)
        → IsTrue (fits_left spot.operation spot.guess.number) ⊎ Other (λ pair. pair.0) partners.left
        → IsTrue (fits_right spot.operation spot.guess.number) ⊎ Other (λ pair. pair.1) partners.right
        → IsJudged model pool mine spot.place spot.guess
    judged model partners pairs named are has_reason used left right = record {
      passed = spot.passed;
      at = spot.at;
      operation = spot.operation;
      spot = notes.comes;
      partners = partners;
      named = named;
      pairs = pairs;
      met = all_related Partner (IsMet pool mine spot.guess spot.passed spot.at spot.operation) is_met partners.others pairs are;
      has_reason = has_reason;
      used = used;
      left = elim left [
        | inl fits ↦ inl fits
        | inr it ↦ inr (record { number = it.number; pair = it.both; met = is_met it.number it.both it.partner; differs = it.differs })
      ];
      right = elim right [
        | inl fits ↦ inl fits
        | inr it ↦ inr (record { number = it.number; pair = it.both; met = is_met it.number it.both it.partner; differs = it.differs })
      ];
    }

-- what proves a guess of the operation in the notes
pub record ProvesSpot (pool : List Bare) (mine : Bare) (place : ℕ) (model : DataModel) (partners : Partners) (guess : Guess) (passed : ℕ) (at : Place)
    (operation : Operation) : Type 0 where
  pub pairs : Others Pair
  pub are : AllRelated (IsPartner pool mine place passed at operation) partners.others pairs
  pub computable : IsComputable operation
  pub small : IsSmall (operands operation)
  pub others_small : AreSmall pairs
  pub has_reason : IsTrue (has_ground model operation pairs)
  pub used : IsTrue (may_be_used model operation guess.number)
  pub left : IsTrue (fits_left operation guess.number) ⊎ HasOther pool mine place passed at operation (λ pair. pair.0) partners.left
  pub right : IsTrue (fits_right operation guess.number) ⊎ HasOther pool mine place passed at operation (λ pair. pair.1) partners.right

-- a guess is that of only one operation
same_spot : (pool : List Bare) (mine : Replay) (place : ℕ) (spot : Spot) → IsSpotAt mine place spot → (guess : Guess) (passed : ℕ) (at : Place)
    (operation : Operation) → IsGuessedAt pool (bare mine) place guess passed at operation → (P : Guess → ℕ → Place → Operation → Type 0)
    → P guess passed at operation → P spot.guess spot.passed spot.at spot.operation
same_spot pool mine place spot notes guess passed at operation guessed P p =
    let one : guess ≡ spot.guess = let e : Some guess ≡ Some spot.guess = sym guessed.listed ∙ notes.listed in cc in
    let count : passed ≡ spot.passed = let e : suc passed ≡ suc spot.passed = sym guessed.number ∙ ap (λ (g : Guess). g.event) one ∙ notes.comes.number in cc in
    let kept : Some (Operates at operation) ≡ Some (Operates spot.at spot.operation) =
    sym guessed.kept ∙ ap (slice_get mine.kept.items) count ∙ notes.comes.kept in
    let there : at ≡ spot.at = cc in
    let same : operation ≡ spot.operation = cc in
    subst (λ g. P g spot.passed spot.at spot.operation) one (subst (λ n. P guess n spot.at spot.operation) count
    (subst (λ a. P guess passed a spot.operation) there (subst (P guess passed at) same p)))

pub proves_spot : (pool : List Bare) (mine : Replay) (place : ℕ) (spot : Spot) (model : DataModel) (partners : Partners) → IsSpotAt mine place spot
    → ProvesGuess pool (bare mine) place model partners
    → ProvesSpot pool (bare mine) place model partners spot.guess spot.passed spot.at spot.operation
proves_spot pool mine place spot model partners notes it =
    same_spot pool mine place spot notes it.guess it.passed it.at it.operation it.guessed (ProvesSpot pool (bare mine) place model partners) (record {
      pairs = it.pairs;
      are = it.are;
      computable = it.computable;
      small = it.small;
      others_small = it.others_small;
      has_reason = it.has_reason;
      used = it.used;
      left = it.left;
      right = it.right;
    })

is_guessed : (pool : List Bare) (mine : Replay) (place : ℕ) (spot : Spot) → IsSpotAt mine place spot
    → IsGuessedAt pool (bare mine) place spot.guess spot.passed spot.at spot.operation
is_guessed pool mine place spot notes = record {
  listed = notes.listed;
  number = notes.comes.number;
  before = notes.before;
  enough = notes.comes.enough;
  kept = notes.comes.kept;
}

-- the partners that are chosen among all of the pool prove the guess, if some do
module _ (pool : List Replay) (mine : Replay) (spot : Spot) (candidates : List Candidate)
    (meet : (number : ℕ) (pair : Pair) → IsCandidate candidates number pair → Partner pool mine spot number pair)
    (all : IsGuessable spot.operation → (number : ℕ) (pair : Pair) → number < length pool → Partner pool mine spot number pair
    → IsCandidate candidates number pair) where
  candidate : IsGuessable spot.operation → (number : ℕ) (pair : Pair) → Partner pool mine spot number pair → IsCandidate candidates number pair
  candidate able number pair it = all able number pair (within_pool pool number it.other it.there) it

  -- if some candidate has another operand, one is named
  abbrev FindsOther : (Pair → ℤ) → Option ℕ → Type 0
  FindsOther operand named = (number : ℕ) (pair : Pair) → IsCandidate candidates number pair → operand pair ≢ operand (operands spot.operation)
      → NamesOther candidates spot.operation operand named

  free : IsGuessable spot.operation → (Fits : Type 0) (operand : Pair → ℤ) (named found : Option ℕ) → FindsOther operand found
      → Fits ⊎ Other pool mine spot operand named → Fits ⊎ Other pool mine spot operand found
  free able Fits operand named found finds (inl fits) = inl fits
  free able Fits operand named found finds (inr it) =
      let is = finds it.number it.both (candidate able it.number it.both it.partner) it.differs in
      inr (record { number = is.number; is = is.is; both = is.pair; partner = meet is.number is.pair is.candidate; differs = is.differs })

  pub chosen_proves : (model : DataModel) (found : Partners) → IsSpotAt mine spot.place spot
      → ((numbers : Others ℕ) (pairs : Others Pair) → AllRelated (IsCandidate candidates) numbers pairs → IsGround model spot.operation pairs
      → GivesGround candidates model spot.operation found.others)
      → FindsOther (λ pair. pair.0) found.left → FindsOther (λ pair. pair.1) found.right
      → HasProof (map bare pool) (bare mine) spot.place model → ProvesGuess (map bare pool) (bare mine) spot.place model found
  chosen_proves model found notes others left right proof =
      let it = proves_spot (map bare pool) mine spot.place spot model proof.0 notes proof.1 in
      let able = guessable model spot.operation it.pairs it.has_reason in
      let given = others proof.0.others it.pairs (all_related (Partner pool mine spot) (IsCandidate candidates) (candidate able) proof.0.others it.pairs it.are)
      (record { computable = it.computable; small = it.small; others_small = it.others_small; has_reason = it.has_reason }) in
      record {
        guess = spot.guess;
        passed = spot.passed;
        at = spot.at;
        operation = spot.operation;
        guessed = is_guessed (map bare pool) mine spot.place spot notes;
        pairs = given.pairs;
        are = all_related (IsCandidate candidates) (Partner pool mine spot) meet found.others given.pairs given.are;
        computable = it.computable;
        small = it.small;
        others_small = given.small;
        has_reason = given.has_reason;
        used = it.used;
        left = free able (IsTrue (fits_left spot.operation spot.guess.number)) (λ pair. pair.0) proof.0.left found.left left it.left;
        right = free able (IsTrue (fits_right spot.operation spot.guess.number)) (λ pair. pair.1) proof.0.right found.right right it.right;
      }
