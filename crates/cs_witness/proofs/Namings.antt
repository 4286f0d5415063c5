-- Partners that are found, and that replays name. For the contracts of `pools`.
use Rattle.std.proofs.Common.{◌≡◌, ◌≢◌, ℕ, zero, suc, ◌+◌, ◌-◌, ◌^◌, ◌<◌, ◌≤◌, List, [], ◌∷◌, ◌++◌, map, set, get_or, length, Some, slice_get}
use Rattle.std.proofs.Common.{refl, sym, ap, ◌∙◌, subst, arith, ◌⊎◌, inl, inr}
use Rattle.std.specs.Prelude.{All, Vec}
use Rattle.std.specs.declared.alloc.Global.{Global}
use Rattle.std.proofs.lemmas.List.{length-map, append-nil, length-append}
use Rattle.std.specs.List.{zip}
use Rattle.std.proofs.lemmas.List.Elements.{All-nil, All-cons, All-head, All-tail}
use Rattle.std.proofs.lemmas.Option.{slice_get-get_or, slice_get_within, get_or_from_slice_get}
use Rattle.cs_types.specs.declared.data_model.DataModel.{DataModel}
use Rattle.cs_results.specs.declared.run.Others.{Others}
use Rattle.cs_results.specs.declared.run.Others.TheVariants.{One, Two}
use Rattle.cs_ast.specs.declared.place.Place.{Place}
use Rattle.cs_events.specs.declared.operation.Operation.{Operation}
use Rattle.cs_findings.specs.Runs.{AllRelated}
use Rattle.cs_findings.specs.Grounds.{Pair}
use Rattle.cs_findings.specs.GoodFindings.{AllOthers}
use Rattle.cs_judge.specs.declared.pool.Partners.{Partners}
use Rattle.cs_judge.specs.declared.pool.Replay.{Replay}
use Rattle.cs_judge.specs.Proving.{Bare, IsPartner, ProvesGuess, FindsProofs, FindAllProofs, bare as judged}
use Rattle.cs_witness.specs.declared.entry.Entry.{Entry}
use Rattle.cs_witness.specs.Keeping.{Widens}
use Rattle.cs_witness.specs.Pooling.{HaveProofs, IsFound, AreFound, AreNamed}

-- the replays before a place name what was found for them
abbrev pub AreNamedBelow : ℕ → List (Vec Partners Global) → List Replay → Type 0
AreNamedBelow place found pool = (number : ℕ) (mine : Replay) (row : Vec Partners Global) → number < place → slice_get pool number ≡ Some mine
    → slice_get found number ≡ Some row → mine.partners.items ≡ row.items

-- a list has items at the numbers below its length
pub there_is : {A : Type 0} (xs : List A) (n : ℕ) → n < length xs → (x : A) × (slice_get xs n ≡ Some x)
there_is [] n below = absurd (omega arith)
there_is (x ∷ xs) zero below = (x, refl)
there_is (x ∷ xs) (suc n) below = there_is xs n (omega arith)

-- the item at an index that was set
set_here : {A : Type 0} (xs : List A) (i : ℕ) (x y : A) → slice_get (set xs i x) i ≡ Some y → y ≡ x
set_here [] i x y there = let no : ⊥ = cc in absurd no
set_here (a ∷ xs) zero x y there = cc
set_here (a ∷ xs) (suc i) x y there = set_here xs i x y there

set_elsewhere : {A : Type 0} (xs : List A) (i n : ℕ) (x : A) → n ≢ i → slice_get (set xs i x) n ≡ slice_get xs n
set_elsewhere [] i n x apart = refl
set_elsewhere (a ∷ xs) zero zero x apart = absurd (apart refl)
set_elsewhere (a ∷ xs) zero (suc n) x apart = refl
set_elsewhere (a ∷ xs) (suc i) zero x apart = refl
set_elsewhere (a ∷ xs) (suc i) (suc n) x apart = set_elsewhere xs i n x (λ e. apart (ap suc e))

pub here_or_before : (n i : ℕ) → n < i + 1 → (n ≡ i) ⊎ (n < i)
here_or_before zero zero below = inl refl
here_or_before zero (suc i) below = inr (omega arith)
here_or_before (suc n) zero below = absurd (omega arith)
here_or_before (suc n) (suc i) below = at (here_or_before n i (omega arith))
  where
    at : ((n ≡ i) ⊎ (n < i)) → (suc n ≡ suc i) ⊎ (suc n < suc i)
    at (inl e) = inl (ap suc e)
    at (inr h) = inr (omega arith)

-- one more replay names what was found for it
pub named_more : (found : List (Vec Partners Global)) (pool : List Replay) (i : ℕ) (replay : Replay) (named : List Partners) → AreNamedBelow i found pool
    → ((row : Vec Partners Global) → slice_get found i ≡ Some row → named ≡ row.items) → replay.partners.items ≡ named
    → AreNamedBelow (i + 1) found (set pool i replay)
named_more found pool i replay named before at is number mine row below there listed = by (here_or_before number i below)
  where
    by : ((number ≡ i) ⊎ (number < i)) → mine.partners.items ≡ row.items
    by (inl here) =
        let same : mine ≡ replay = set_here pool i replay mine (subst (λ n. slice_get (set pool i replay) n ≡ Some mine) here there) in
        ap (λ (r : Replay). r.partners.items) same ∙ is ∙ at row (subst (λ n. slice_get found n ≡ Some row) here listed)
    by (inr less) =
        before number mine row less (sym (set_elsewhere pool i number replay (λ e. absurd (omega arith))) ∙ there) listed

pub named_all : (found : List (Vec Partners Global)) (pool : List Replay) (i : ℕ) → AreNamedBelow i found pool → length pool ≤ i → AreNamed found pool
named_all found pool i below all number mine row there listed =
    let within = slice_get_within pool number mine there in
    below number mine row (omega arith) there listed

-- partners that prove a guess are indices of runs
module _ (pool : List Bare) (mine : Bare) (place passed : ℕ) (at : Place) (operation : Operation) where
  within_pool : (number : ℕ) (pair : Pair) → IsPartner pool mine place passed at operation number pair → number < length pool
  within_pool number pair is = slice_get_within pool number is.other is.there

  others_within : (numbers : Others ℕ) (pairs : Others Pair) → AllRelated (IsPartner pool mine place passed at operation) numbers pairs
      → AllOthers (λ (number : ℕ). number < length pool) numbers
  others_within (One number) (One pair) are = within_pool number pair are
  others_within (One number) (Two pair next) are = absurd are
  others_within (Two number second) (One pair) are = absurd are
  others_within (Two number second) (Two pair next) are = (within_pool number pair are.0, within_pool second next are.1)

fewer : (most other : ℕ) (numbers : Others ℕ) → most ≤ other → AllOthers (λ (number : ℕ). number < most) numbers
    → AllOthers (λ (number : ℕ). number < other) numbers
fewer most other (One number) within all = omega arith
fewer most other (Two number second) within all = let a = all.0 in let b = all.1 in (omega arith, omega arith)

pub found_by_proof : (pool : List Bare) (mine : Bare) (place : ℕ) (model : DataModel) (partners : Partners) → length pool ≤ 2 ^ 64 - 1
    → ProvesGuess pool mine place model partners → IsFound partners
found_by_proof pool mine place model partners few proves =
    fewer (length pool) (2 ^ 64 - 1) partners.others few
    (others_within pool mine place proves.passed proves.at proves.operation partners.others proves.pairs proves.are)

-- if all guesses have proofs, partners are found for all
module _ (model : DataModel) (pool : List Replay) (have : HaveProofs model pool) (few : length pool ≤ 2 ^ 64 - 1) where
  row_found : (number : ℕ) (mine : Replay) (row : List Partners) → slice_get pool number ≡ Some mine
      → FindsProofs model (map judged pool) (judged mine) row
      → All IsFound row
  row_found number mine row there finds place d below =
      let partners = get_or row place d in
      let within : place < length mine.run.guesses.items = let n = finds.count in omega arith in
      let count = length-map pool judged in
      found_by_proof (map judged pool) (judged mine) place model partners (omega arith)
      (finds.each place partners (slice_get-get_or row place d below) (have number mine place there within))

  pub all_found : (found : List (Vec Partners Global)) → FindAllProofs model pool found → AreFound found
  all_found found finds number d below =
      let row = get_or found number d in
      let within : number < length pool = let n = finds.count in omega arith in
      let mine = there_is pool number within in
      row_found number mine.0 row.items mine.1 (finds.each number mine.0 row mine.1 (slice_get-get_or found number d below))

-- a pool that was widened to the same length is unchanged
pub no_wider : (entry : Entry) (old new : List Replay) → Widens entry old new → length new ≡ length old → new ≡ old
no_wider entry old new wide count = at wide.more wide.is
  where
    at : (more : List Replay) → new ≡ old ++ more → new ≡ old
    at [] is = is ∙ append-nil old
    at (x ∷ more) is =
        let n : length new ≡ length (old ++ x ∷ more) = ap length is in
        let m = length-append old (x ∷ more) in
        absurd (omega arith)

pub row_all : (found : List (Vec Partners Global)) (number : ℕ) (row : Vec Partners Global) → AreFound found → slice_get found number ≡ Some row
    → All IsFound row.items
row_all found number row all there =
    subst (λ (r : Vec Partners Global). All IsFound r.items) (get_or_from_slice_get found number row row there)
    (all number row (slice_get_within found number row there))

-- what holds for all items of a list holds for the second parts of a zip with it
pub zipped_all : {A B : Type 0} (P : B → Type 0) (xs : List A) (ys : List B) → All P ys → All (λ (p : A × B). P p.1) (zip xs ys)
zipped_all P [] ys all = All-nil _
zipped_all P (x ∷ xs) [] all = All-nil _
zipped_all P (x ∷ xs) (y ∷ ys) all =
    All-cons (λ p. P p.1) (x, y) (zip xs ys) (All-head P y ys all) (zipped_all P xs ys (All-tail P y ys all))
