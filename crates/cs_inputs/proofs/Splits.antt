-- A text has only one cut before its first separator: for `split_before` and all functions that read parts of a text.
use Rattle.std.proofs.Common.{◌≡◌, ℕ, ◌+◌, ◌<◌, Bool, true, false, not, ◌&&◌, eqb, eqb-true, List, [], ◌∷◌, ◌++◌, length, take}
use Rattle.std.proofs.Common.{drop, get_or, ap, sym, ◌∙◌, refl, arith}
use Rattle.std.specs.Prelude.{◌==◌}
use Rattle.std.specs.List.{list_all, position_or_len}
use Rattle.std.proofs.lemmas.Bool.Decides.{nat_tests}
use Rattle.std.proofs.lemmas.List.{get_or-take, drop_more, length-take, length-drop}
use Rattle.std.proofs.lemmas.List.Sums.{list_all-from_AllPass, fails_before_first, passes_at_first}
use Rattle.cs_inputs.specs.Reading.{SplitsBefore, IsEmptyOrAt}

pub both : (a b : Bool) → (a && b) ≡ true → (a ≡ true) × (b ≡ true)
both true b h = (refl, h)
both false b h = absurd (cc)

-- bytes that all pass a test also pass a weaker one
pub all_weaker : (p q : ℕ → Bool) → ((b : ℕ) → p b ≡ true → q b ≡ true) → (bs : List ℕ) → list_all p bs ≡ true
    → list_all q bs ≡ true
all_weaker p q weaker [] h = refl
all_weaker p q weaker (b ∷ bs) h =
    let parts = both (p b) (list_all p bs) h in
    ap (λ t. t && list_all q bs) (weaker b parts.0) ∙ all_weaker p q weaker bs parts.1

-- a separator that fails a test isn't among bytes that pass it
pub all_without : (p : ℕ → Bool) (separator : ℕ) → p separator ≡ false → (bs : List ℕ) → list_all p bs ≡ true
    → list_all (λ b. not (b == separator)) bs ≡ true
all_without p separator fails bs h = all_weaker p (λ b. not (b == separator)) (λ b passes. other b (b == separator) refl passes) bs h
  where
    other : (b : ℕ) (same : Bool) → (b == separator) ≡ same → p b ≡ true → not same ≡ true
    other b false is passes = refl
    other b true is passes = let e : b ≡ separator = eqb-true b separator is in cc

-- ---- the cut that the code makes
pub none_before : (separator : ℕ) (xs : List ℕ) → list_all (λ b. not (b == separator)) (take (position_or_len (λ b. b == separator) xs) xs) ≡ true
none_before separator xs =
    list_all-from_AllPass (λ b. not (b == separator)) (take (position_or_len (λ b. b == separator) xs) xs)
    (λ k d low.
    let here : k < position_or_len (λ b. b == separator) xs = omega (arith, length-take (position_or_len (λ b. b == separator) xs) xs) in
    ap (λ b. not (b == separator)) (get_or-take (position_or_len (λ b. b == separator) xs) xs k d here)
    ∙ ap not (fails_before_first (λ b. b == separator) xs k d here))

at_rest : (separator : ℕ) (xs rest : List ℕ) (i : ℕ) → rest ≡ drop i xs → (i < length xs → eqb (get_or xs i 0) separator ≡ true)
    → IsEmptyOrAt separator rest
at_rest separator xs [] i e h = tt
at_rest separator xs (r ∷ rs) i e h =
    let low : i < length xs = omega (arith, ap length e, length-drop i xs) in
    let first : get_or xs i 0 ≡ separator = eqb-true (get_or xs i 0) separator (h low) in
    let cut : drop i xs ≡ get_or xs i 0 ∷ drop (i + 1) xs = drop_more xs i 0 low in
    cc

pub splits_at_first : (separator : ℕ) (xs before following : List ℕ) → before ≡ take (position_or_len (λ b. b == separator) xs) xs
    → following ≡ drop (position_or_len (λ b. b == separator) xs) xs → xs ≡ before ++ following → SplitsBefore separator xs before following
splits_at_first separator xs before following front back whole = record {
  whole = whole;
  none = ap (list_all (λ b. not (b == separator))) front ∙ none_before separator xs;
  at = at_rest separator xs following (position_or_len (λ b. b == separator) xs) back (passes_at_first (λ b. b == separator) xs 0);
}

-- ---- the cut is unique
marked : (separator x : ℕ) (xs b : List ℕ) → b ≡ x ∷ xs → IsEmptyOrAt separator b → not (x == separator) ≡ true → ⊥
marked separator x xs [] e at n = absurd (cc)
marked separator x xs (y ∷ ys) e at n = let same : x ≡ separator = cc in grind (arith, nat_tests)

pub one_cut : (separator : ℕ) (a c b d : List ℕ) → list_all (λ b. not (b == separator)) a ≡ true → list_all (λ b. not (b == separator)) c ≡ true
    → IsEmptyOrAt separator b → IsEmptyOrAt separator d → a ++ b ≡ c ++ d → (a ≡ c) × (b ≡ d)
one_cut separator [] [] b d na nc atb atd e = (refl, e)
one_cut separator [] (y ∷ c) b d na nc atb atd e =
    absurd (marked separator y (c ++ d) b e atb (both (not (y == separator)) (list_all (λ b. not (b == separator)) c) nc).0)
one_cut separator (x ∷ a) [] b d na nc atb atd e =
    absurd (marked separator x (a ++ b) d (sym e) atd (both (not (x == separator)) (list_all (λ b. not (b == separator)) a) na).0)
one_cut separator (x ∷ a) (y ∷ c) b d na nc atb atd e =
    let tails : a ++ b ≡ c ++ d = cc in
    let heads : x ≡ y = cc in
    let rest = one_cut separator a c b d (both (not (x == separator)) (list_all (λ b. not (b == separator)) a) na).1
    (both (not (y == separator)) (list_all (λ b. not (b == separator)) c) nc).1 atb atd tails in
    let fronts : a ≡ c = rest.0 in
    (cc, rest.1)

-- two cuts of one text are the same
pub same_cut : (separator : ℕ) (text a c b d : List ℕ) → SplitsBefore separator text a b → SplitsBefore separator text c d → (a ≡ c) × (b ≡ d)
same_cut separator text a c b d one other = one_cut separator a c b d one.none other.none one.at other.at (sym one.whole ∙ other.whole)
