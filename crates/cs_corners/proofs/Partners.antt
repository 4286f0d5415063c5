-- Two operands over different symbols that both have two numbers: a corner whose pair of operands differs from the first, and another one.
use Rattle.std.proofs.Common.{◌≡◌, ◌≢◌, ◌⊎◌, inl, inr, Bool, true, false, not, ◌&&◌, ℤ, pos, Some}
use Rattle.std.proofs.Common.{refl, sym, ap, ◌∙◌, arith}
use Rattle.std.specs.Prelude.{◌≤ℤ◌, ◌<ℤ◌}
use Rattle.std.proofs.lemmas.Int.{ints, by_lt_z}
use Rattle.cs_terms.specs.declared.symbol.Sym.{Sym}
use Rattle.cs_terms.specs.declared.term.Lin.{Lin}
use Rattle.cs_terms.specs.Term.{Valuation, value_of, value_at}
use Rattle.cs_constraints.specs.Constraints.{Sets}
use Rattle.cs_results.specs.declared.run.Others.TheVariants.{Two}
use Rattle.cs_findings.specs.Grounds.{Pair, are_spread, truth_differs, disagrees, meets_zero, gap, least, greatest, lesser, greater}
use Rattle.cs_corners.specs.Corners.{IsEnd, IsCornerOf}
use Rattle.cs_corners.proofs.Extremes.{lesser-left, lesser-right, greater-left, greater-right, meets}
use Rattle.cs_corners.proofs.Numbers.{same_or_not}
use Rattle.cs_corners.proofs.Rectangles.{AreOf, corner, corner_left, corner_right, corner_is}
use Rattle.cs_corners.proofs.Spread.{spread_along, spread_across, and_both, or_first}

-- the values of two operands
abbrev pub pair_under : Lin → Lin → Valuation → Pair
pair_under left right w = (value_of w left, value_of w right)

-- two corners that pass a test together
pub record HasTwo (sets : Sets) (left right : Lin) (v : Valuation) (test : Pair → Pair → Bool) : Type 0 where
  pub first : Valuation
  pub second : Valuation
  pub first_is : IsCornerOf sets (AreOf left right) v first
  pub second_is : IsCornerOf sets (AreOf left right) v second
  pub passed : test (pair_under left right first) (pair_under left right second) ≡ true

pub same_test : (test : Pair → Pair → Bool) (a b c d a' b' c' d' : ℤ) → a' ≡ a → b' ≡ b → c' ≡ c → d' ≡ d → test (a, b) (c, d) ≡ true
    → test (a', b') (c', d') ≡ true
same_test test a b c d a' b' c' d' e f g h t = rw (e, f, g, h) t

module _ (sets : Sets) (left right : Lin) (s t : Sym) (left_over : left.sym ≡ Some s) (right_over : right.sym ≡ Some t) (apart : s.0 ≢ t.0)
    (v : Valuation) where
  -- numbers of both symbols, and others at which the operands have other values
  pub record IsFrame (p o q r : ℤ) : Type 0 where
    pub p_end : IsEnd sets s p
    pub o_end : IsEnd sets s o
    pub q_end : IsEnd sets t q
    pub r_end : IsEnd sets t r
    pub left_apart : value_at left p ≢ value_at left o
    pub right_apart : value_at right q ≢ value_at right r

  turned : (p o q r : ℤ) → IsFrame p o q r → IsFrame o p r q
  turned p o q r h = record {
    p_end = h.o_end;
    o_end = h.p_end;
    q_end = h.r_end;
    r_end = h.q_end;
    left_apart = λ e. h.left_apart (sym e);
    right_apart = λ e. h.right_apart (sym e);
  }

  abbrev mine : Pair
  mine = pair_under left right v

  -- two corners pass a test if their pairs of operands do
  two : (test : Pair → Pair → Bool) (p q p' q' : ℤ) → IsEnd sets s p → IsEnd sets t q → IsEnd sets s p' → IsEnd sets t q'
      → test (value_at left p, value_at right q) (value_at left p', value_at right q') ≡ true → HasTwo sets left right v test
  two test p q p' q' p_end q_end p'_end q'_end passed = record {
    first = corner sets left right s t left_over right_over apart v p q;
    second = corner sets left right s t left_over right_over apart v p' q';
    first_is = corner_is sets left right s t left_over right_over apart v p q p_end q_end;
    second_is = corner_is sets left right s t left_over right_over apart v p' q' p'_end q'_end;
    passed = same_test test (value_at left p) (value_at right q) (value_at left p') (value_at right q') _ _ _ _
        (corner_left sets left right s t left_over right_over apart v p q) (corner_right sets left right s t left_over right_over apart v p q)
        (corner_left sets left right s t left_over right_over apart v p' q') (corner_right sets left right s t left_over right_over apart v p' q')
        passed;
  }

  -- a corner with another pair of operands than the first valuation's: with some second corner the pairs aren't on one line. The test holds for any second pair
  partner : (test : Pair → Pair → Bool) (p o q r : ℤ) → IsFrame p o q r → (mine ≢ (value_at left p, value_at right q))
      → ((pair : Pair) → test (value_at left p, value_at right q) pair ≡ true)
      → HasTwo sets left right v (λ first second. are_spread mine (Two first second) && test first second)
  partner test p o q r h differ passes = by (same_or_not (value_at right q) mine.1) (same_or_not (value_at left p) mine.0)
    where
      by : (value_at right q ≡ mine.1) ⊎ (value_at right q ≢ mine.1) → (value_at left p ≡ mine.0) ⊎ (value_at left p ≢ mine.0)
          → HasTwo sets left right v (λ first second. are_spread mine (Two first second) && test first second)
      by (inr other) w = two _ p q o q h.p_end h.q_end h.o_end h.q_end (and_both _ _
          (spread_along mine.0 mine.1 (value_at left p) (value_at left o) (value_at right q) h.left_apart other) (passes _))
      by (inl same) (inr other) = two _ p q p r h.p_end h.q_end h.p_end h.r_end (and_both _ _
          (spread_across mine.0 mine.1 (value_at left p) (value_at right q) (value_at right r) h.right_apart other) (passes _))
      by (inl same) (inl also) = absurd (differ (both_same mine.0 mine.1 (value_at left p) (value_at right q) (sym also) (sym same)))
        where
          both_same : (a b c d : ℤ) → a ≡ c → b ≡ d → (let one : Pair = (a, b) in let other : Pair = (c, d) in one ≡ other)
          both_same a b c d e f = rw (e, f) refl

  abbrev Tested : (Pair → Bool) → Type 0
  Tested test = HasTwo sets left right v (λ first second. are_spread mine (Two first second) && truth_differs test mine (Two first second))

  -- a truth that differs at two opposite corners differs from that of the first pair at one of them
  pub tested : (test : Pair → Bool) (p o q r : ℤ) → IsFrame p o q r → (b : Bool) → test (value_at left p, value_at right q) ≡ b
      → test (value_at left o, value_at right r) ≡ not b → Tested test
  tested test p o q r h b here there = by b (test mine) refl here there
    where
      clash : (x : Bool) (pair : Pair) → test mine ≡ x → test pair ≡ not x → mine ≢ pair
      clash true pair e f z = let g : true ≡ false = sym e ∙ ap test z ∙ f in absurd (cc)
      clash false pair e f z = let g : false ≡ true = sym e ∙ ap test z ∙ f in absurd (cc)

      disagree : (x : Bool) (pair other : Pair) → test mine ≡ x → test pair ≡ not x → truth_differs test mine (Two pair other) ≡ true
      disagree true pair other e f = or_first (disagrees (test pair) (test mine)) (disagrees (test other) (test mine)) (rw (e, f) refl)
      disagree false pair other e f = or_first (disagrees (test pair) (test mine)) (disagrees (test other) (test mine)) (rw (e, f) refl)

      at_first : (x : Bool) → test mine ≡ x → test (value_at left p, value_at right q) ≡ not x → Tested test
      at_first x e f = partner (λ first second. truth_differs test mine (Two first second)) p o q r h (clash x _ e f) (λ pair. disagree x _ pair e f)

      at_second : (x : Bool) → test mine ≡ x → test (value_at left o, value_at right r) ≡ not x → Tested test
      at_second x e f =
          partner (λ first second. truth_differs test mine (Two first second)) o p r q (turned p o q r h) (clash x _ e f) (λ pair. disagree x _ pair e f)

      by : (b x : Bool) → test mine ≡ x → test (value_at left p, value_at right q) ≡ b → test (value_at left o, value_at right r) ≡ not b
          → Tested test
      by true true e f g = at_second true e g
      by false false e f g = at_second false e g
      by true false e f g = at_first false e f
      by false true e f g = at_first true e f

  -- some two corners aren't on one line with the first pair
  pub spread : (p o q r : ℤ) → IsFrame p o q r → HasTwo sets left right v (λ first second. are_spread mine (Two first second))
  spread p o q r h = elim (same_or_not (value_at left p) mine.0) [
    | inr other ↦ two (λ first second. are_spread mine (Two first second)) p q p r h.p_end h.q_end h.p_end h.r_end
        (spread_across mine.0 mine.1 (value_at left p) (value_at right q) (value_at right r) h.right_apart other)
    | inl same ↦ two (λ first second. are_spread mine (Two first second)) o q o r h.o_end h.q_end h.o_end h.r_end
        (spread_across mine.0 mine.1 (value_at left o) (value_at right q) (value_at right r) h.right_apart (λ e. h.left_apart (same ∙ sym e)))
  ]

  abbrev Met : Type 0
  Met = HasTwo sets left right v (λ first second. are_spread mine (Two first second) && meets_zero mine (Two first second))

  -- the difference of the operands is at most 0 at one corner and at least 0 at the opposite one
  pub met : (p o q r : ℤ) → IsFrame p o q r → gap (value_at left p, value_at right q) ≤ℤ pos 0
      → pos 0 ≤ℤ gap (value_at left o, value_at right r)
      → gap (value_at left p, value_at right q) <ℤ gap (value_at left o, value_at right r) → Met
  met p o q r h under over order =
      by_lt_z (pos 0) (gap mine) above (λ low. by_lt_z (gap mine) (gap (value_at left o, value_at right r)) (high_corner low) (at low))
    where
      differ : (one other : Pair) → gap one <ℤ gap other → one ≢ other
      differ one other lt e = let same : gap one ≡ gap other = ap gap e in absurd (omega (arith, ints))

      -- the first corner meets the test
      low_corner : pos 0 ≤ℤ gap mine → gap (value_at left p, value_at right q) <ℤ gap mine → Met
      low_corner from lt = partner (λ first second. meets_zero mine (Two first second)) p o q r h (λ e. differ _ _ lt (sym e))
          (λ pair. let here : Pair = (value_at left p, value_at right q) in
          let inner = lesser-left (gap here) (gap pair) in
          let outer = lesser-right (gap mine) (lesser (gap here) (gap pair)) in
          let top = greater-left (gap mine) (greater (gap here) (gap pair)) in
          meets (least gap mine (Two here pair)) (greatest gap mine (Two here pair)) (gap here) (gap mine) (omega (arith, ints)) top under from lt)

      high_corner : gap mine ≤ℤ pos 0 → gap mine <ℤ gap (value_at left o, value_at right r) → Met
      high_corner upto lt = partner (λ first second. meets_zero mine (Two first second)) o p r q (turned p o q r h) (λ e. differ _ _ lt e)
          (λ pair. let here : Pair = (value_at left o, value_at right r) in
          let inner = greater-left (gap here) (gap pair) in
          let outer = greater-right (gap mine) (greater (gap here) (gap pair)) in
          let bottom = lesser-left (gap mine) (lesser (gap here) (gap pair)) in
          meets (least gap mine (Two here pair)) (greatest gap mine (Two here pair)) (gap mine) (gap here) bottom (omega (arith, ints)) upto over lt)

      above : pos 0 <ℤ gap mine → Met
      above lt = low_corner (omega (arith, ints)) (omega (arith, ints))

      at : gap mine ≤ℤ pos 0 → gap (value_at left o, value_at right r) ≤ℤ gap mine → Met
      at low le = low_corner (omega (arith, ints)) (omega (arith, ints))
