-- The order test of `calloc`: if it isn't followed exactly, two corners are the ground of its guess.
use Rattle.std.proofs.Common.{◌≡◌, inl, inr, Bool, true, false, ℤ, pos, ◌*ℤ◌, refl, arith}
use Rattle.std.specs.Prelude.{◌≤ℤ◌, int_le, int_lt}
use Rattle.std.proofs.lemmas.Int.{ints}
use Rattle.cs_types.specs.declared.data_model.DataModel.{DataModel}
use Rattle.cs_types.specs.DataModel.{product_bound_of}
use Rattle.cs_terms.specs.declared.term.Lin.{Lin}
use Rattle.cs_terms.specs.Term.{Valuation, value_of, value_at}
use Rattle.cs_constraints.specs.Constraints.{Sets, Fits}
use Rattle.cs_eval.specs.Followed.{IsProductDecided}
use Rattle.cs_eval.specs.Operands.{IsFixed}
use Rattle.cs_results.specs.declared.run.Others.TheVariants.{Two}
use Rattle.cs_findings.specs.Grounds.{Pair, lesser, greater, product_ground}
use Rattle.cs_corners.specs.Operands.{IsCount}
use Rattle.cs_corners.proofs.Binaries.{left_movable, right_movable}
use Rattle.cs_corners.proofs.Choices.{HasSome, of_two, declared}
use Rattle.cs_corners.proofs.Ends.{AllEnds}
use Rattle.cs_corners.proofs.Extremes.{lesser-left, lesser-right, greater-left, greater-right, product_grows}
use Rattle.cs_corners.proofs.Opposite.{lowest, highest, lowest_is, highest_is, lowest_value, highest_value}
use Rattle.cs_corners.proofs.Partners.{pair_under, HasTwo, same_test}
use Rattle.cs_corners.proofs.Rectangles.{AreOf, which_of}
use Rattle.cs_corners.proofs.Spread.{and_both, one_differs}
use Rattle.cs_corners.proofs.Terms.{IsMovable, values_apart, inside}

few_below : (x y b : ℤ) → x ≤ℤ y → int_le y b ≡ true → int_le x b ≡ true
few_below x y b h t = grind (arith, ints)

many_above : (x y b : ℤ) → x ≤ℤ y → int_le x b ≡ false → int_le y b ≡ false
many_above x y b h t = grind (arith, ints)

past : (x y b : ℤ) → x ≤ℤ y → int_le x b ≡ false → int_lt b y ≡ true
past x y b h t = grind (arith, ints)

lesser_from : (low x y : ℤ) → low ≤ℤ x → low ≤ℤ y → low ≤ℤ lesser x y
lesser_from low x y h k = grind (arith, ints)

greater_from : (low x y : ℤ) → low ≤ℤ x → low ≤ℤ greater x y
greater_from low x y h = omega (arith, ints, greater-left x y)

module _ (model : DataModel) (sets : Sets) (ends : AllEnds sets) (count size : Lin) (v : Valuation) (counts : IsCount sets v count)
    (sizes : IsCount sets v size) (c : IsMovable sets ends count) (s : IsMovable sets ends size) where
  -- the values at the least and at the greatest number of each symbol
  abbrev c1 : ℤ
  c1 = value_at count (ends c.symbol.0).low

  abbrev c2 : ℤ
  c2 = value_at count (ends c.symbol.0).high

  abbrev s1 : ℤ
  s1 = value_at size (ends s.symbol.0).low

  abbrev s2 : ℤ
  s2 = value_at size (ends s.symbol.0).high

  abbrev bound : ℤ
  bound = pos (product_bound_of model)

  c1_from : pos 0 ≤ℤ c1
  c1_from = counts.values c.symbol c.set c.over c.known (ends c.symbol.0).low ((ends c.symbol.0).least c.set c.known).member

  c2_from : pos 0 ≤ℤ c2
  c2_from = counts.values c.symbol c.set c.over c.known (ends c.symbol.0).high ((ends c.symbol.0).greatest c.set c.known).member

  s1_from : pos 0 ≤ℤ s1
  s1_from = sizes.values s.symbol s.set s.over s.known (ends s.symbol.0).low ((ends s.symbol.0).least s.set s.known).member

  s2_from : pos 0 ≤ℤ s2
  s2_from = sizes.values s.symbol s.set s.over s.known (ends s.symbol.0).high ((ends s.symbol.0).greatest s.set s.known).member

  count_between : (w : Valuation) → Fits w sets → (lesser c1 c2 ≤ℤ value_of w count) × (value_of w count ≤ℤ greater c1 c2)
  count_between w fits = inside sets ends count counts.operand.is_term c (lesser c1 c2) (greater c1 c2) (lesser-left c1 c2, greater-left c1 c2)
      (lesser-right c1 c2, greater-right c1 c2) w fits

  size_between : (w : Valuation) → Fits w sets → (lesser s1 s2 ≤ℤ value_of w size) × (value_of w size ≤ℤ greater s1 s2)
  size_between w fits = inside sets ends size sizes.operand.is_term s (lesser s1 s2) (greater s1 s2) (lesser-left s1 s2, greater-left s1 s2)
      (lesser-right s1 s2, greater-right s1 s2) w fits

  count_from : pos 0 ≤ℤ lesser c1 c2
  count_from = lesser_from (pos 0) c1 c2 c1_from c2_from

  size_from : pos 0 ≤ℤ lesser s1 s2
  size_from = lesser_from (pos 0) s1 s2 s1_from s2_from

  none_few : int_le (lesser c1 c2 *ℤ lesser s1 s2) bound ≡ false → IsProductDecided model sets count size
  none_few e = (
    false,
    λ w x w_fits x_fits. many_above (lesser c1 c2 *ℤ lesser s1 s2) (value_of w count *ℤ value_of x size) bound
        (product_grows (lesser c1 c2) (lesser s1 s2) (value_of w count) (value_of x size) count_from (count_between w w_fits).0 size_from
        (size_between x x_fits).0) e,
  )

  all_few : int_le (greater c1 c2 *ℤ greater s1 s2) bound ≡ true → IsProductDecided model sets count size
  all_few e = (
    true,
    λ w x w_fits x_fits.
        let a = count_between w w_fits in
        let b = size_between x x_fits in
        let a0 = count_from in
        let b0 = size_from in
        few_below (value_of w count *ℤ value_of x size) (greater c1 c2 *ℤ greater s1 s2) bound
        (product_grows (value_of w count) (value_of x size) (greater c1 c2) (greater s1 s2) (omega (arith, ints, a.0, a0)) a.1 (omega (arith, ints, b.0, b0))
        b.1)
        e,
  )

  abbrev mine : Pair
  mine = pair_under count size v

  passes : int_le (lesser c1 c2 *ℤ lesser s1 s2) bound ≡ true → int_le (greater c1 c2 *ℤ greater s1 s2) bound ≡ false
      → product_ground model mine (Two (c1, s1) (c2, s2)) ≡ true
  passes few many =
      let x = value_of v count in
      let y = value_of v size in
      and_both _ _
      (and_both _ _
      (one_differs c1 c2 x (values_apart count c.symbol counts.operand.is_term c.over (ends c.symbol.0).low (ends c.symbol.0).high c.apart))
      (one_differs s1 s2 y (values_apart size s.symbol sizes.operand.is_term s.over (ends s.symbol.0).low (ends s.symbol.0).high s.apart)))
      (and_both _ _
      (few_below (lesser x (lesser c1 c2) *ℤ lesser y (lesser s1 s2)) (lesser c1 c2 *ℤ lesser s1 s2) bound
      (product_grows (lesser x (lesser c1 c2)) (lesser y (lesser s1 s2)) (lesser c1 c2) (lesser s1 s2)
      (lesser_from (pos 0) x (lesser c1 c2) counts.here count_from) (lesser-right x (lesser c1 c2))
      (lesser_from (pos 0) y (lesser s1 s2) sizes.here size_from) (lesser-right y (lesser s1 s2))) few)
      (past (greater c1 c2 *ℤ greater s1 s2) (greater x (greater c1 c2) *ℤ greater y (greater s1 s2)) bound
      (product_grows (greater c1 c2) (greater s1 s2) (greater x (greater c1 c2)) (greater y (greater s1 s2))
      (greater_from (pos 0) c1 c2 c1_from) (greater-right x (greater c1 c2))
      (greater_from (pos 0) s1 s2 s1_from) (greater-right y (greater s1 s2))) many))

  lows : Valuation
  lows = lowest sets ends (AreOf count size) (which_of count size) (declared sets ends count size counts.operand sizes.operand v) v

  highs : Valuation
  highs = highest sets ends (AreOf count size) (which_of count size) (declared sets ends count size counts.operand sizes.operand v) v

  at_both : product_ground model mine (Two (c1, s1) (c2, s2)) ≡ true
      → HasTwo sets count size v (λ first second. product_ground model mine (Two first second))
  unfolding lows highs
  at_both passed =
      let known = declared sets ends count size counts.operand sizes.operand v in
      record {
        first = lows;
        second = highs;
        first_is = lowest_is sets ends (AreOf count size) (which_of count size) known v;
        second_is = highest_is sets ends (AreOf count size) (which_of count size) known v;
        passed = same_test (λ first second. product_ground model mine (Two first second)) c1 s1 c2 s2 _ _ _ _
            (lowest_value sets ends (AreOf count size) (which_of count size) known v count c (inl c.over))
            (lowest_value sets ends (AreOf count size) (which_of count size) known v size s (inr s.over))
            (highest_value sets ends (AreOf count size) (which_of count size) known v count c (inl c.over))
            (highest_value sets ends (AreOf count size) (which_of count size) known v size s (inr s.over)) passed;
      }

  of_movable : ¬ IsProductDecided model sets count size → HasSome sets count size v (λ others. product_ground model mine others)
  of_movable n = by (int_le (lesser c1 c2 *ℤ lesser s1 s2) bound) (int_le (greater c1 c2 *ℤ greater s1 s2) bound) refl refl
    where
      by : (a b : Bool) → int_le (lesser c1 c2 *ℤ lesser s1 s2) bound ≡ a → int_le (greater c1 c2 *ℤ greater s1 s2) bound ≡ b
          → HasSome sets count size v (λ others. product_ground model mine others)
      by false b e f = absurd (n (none_few e))
      by true true e f = absurd (n (all_few f))
      by true false e f = of_two sets count size v (λ others. product_ground model mine others) (at_both (passes e f))

-- two counts that may both differ
pub counted : (model : DataModel) (sets : Sets) (ends : AllEnds sets) (count size : Lin) (v : Valuation) → IsCount sets v count → IsCount sets v size
    → ¬ IsFixed sets count → ¬ IsFixed sets size → ¬ IsProductDecided model sets count size
    → HasSome sets count size v (λ others. product_ground model (pair_under count size v) others)
counted model sets ends count size v counts sizes n o d =
    of_movable model sets ends count size v counts sizes (left_movable sets ends count size counts.operand sizes.operand n)
    (right_movable sets ends count size counts.operand sizes.operand o) d
