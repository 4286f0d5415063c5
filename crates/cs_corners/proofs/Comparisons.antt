-- Comparisons and order tests: if one isn't followed exactly, two corners are the ground of its guess.
use Rattle.std.proofs.Common.{◌≡◌, Bool, true, false, not, ◌&&◌, ◌||◌, ℤ, pos, ◌+ℤ◌, ◌-ℤ◌, refl, sym}
use Rattle.std.proofs.Common.{arith}
use Rattle.std.specs.Prelude.{◌≤ℤ◌, int_le, int_lt}
use Rattle.std.proofs.lemmas.Int.{ints}
use Rattle.cs_ranges.specs.declared.range_set.Interval.{Interval}
use Rattle.cs_ast.specs.declared.typed.operator.CmpOp.{CmpOp}
use Rattle.cs_ast.specs.declared.typed.operator.CmpOp.TheVariants.{Less, AtMost, More, AtLeast, Equal, Differs}
use Rattle.cs_terms.specs.declared.term.Lin.{Lin}
use Rattle.cs_terms.specs.Term.{Valuation, value_of, value_at}
use Rattle.cs_constraints.specs.Constraints.{Sets, Fits}
use Rattle.cs_events.specs.Operations.{compares}
use Rattle.cs_signs.specs.Signs.{holds_between, opposite_of}
use Rattle.cs_eval.specs.Followed.{IsDecided}
use Rattle.cs_eval.specs.Operands.{IsBetween}
use Rattle.cs_eval.proofs.Signs.{decided_true, decided_false}
use Rattle.cs_findings.specs.Grounds.{Pair, are_spread, truth_differs, comparison_ground}
use Rattle.cs_corners.specs.Operands.{IsOperand}
use Rattle.cs_corners.proofs.Binaries.{AreApart, below_apart}
use Rattle.cs_corners.proofs.Choices.{HasSome, of_two}
use Rattle.cs_corners.proofs.Ends.{AllEnds}
use Rattle.cs_corners.proofs.Partners.{pair_under, tested, met}
use Rattle.cs_corners.proofs.Terms.{IsStretched, stretched}

-- the first of two truths holds, or the second, or neither
undecided : {P : Type 0} (a b : Bool) → (a ≡ true → P) → (b ≡ true → P) → (a ≡ false → b ≡ false → P) → P
undecided true b f g h = f refl
undecided false true f g h = g refl
undecided false false f g h = h refl refl

-- a comparison of two numbers, by the sign of their difference
less_is : (x y : ℤ) → int_le (pos 0) (x -ℤ y) ≡ false → compares Less x y ≡ true
less_is x y e = grind (arith, ints)

less_not : (x y : ℤ) → int_lt (x -ℤ y) (pos 0) ≡ false → compares Less x y ≡ false
less_not x y e = grind (arith, ints)

at_most_is : (x y : ℤ) → int_lt (pos 0) (x -ℤ y) ≡ false → compares AtMost x y ≡ true
at_most_is x y e = grind (arith, ints)

at_most_not : (x y : ℤ) → int_le (x -ℤ y) (pos 0) ≡ false → compares AtMost x y ≡ false
at_most_not x y e = grind (arith, ints)

more_is : (x y : ℤ) → int_le (x -ℤ y) (pos 0) ≡ false → compares More x y ≡ true
more_is x y e = grind (arith, ints)

more_not : (x y : ℤ) → int_lt (pos 0) (x -ℤ y) ≡ false → compares More x y ≡ false
more_not x y e = grind (arith, ints)

at_least_is : (x y : ℤ) → int_lt (x -ℤ y) (pos 0) ≡ false → compares AtLeast x y ≡ true
at_least_is x y e = grind (arith, ints)

at_least_not : (x y : ℤ) → int_le (pos 0) (x -ℤ y) ≡ false → compares AtLeast x y ≡ false
at_least_not x y e = grind (arith, ints)

sum_is : (x y : ℤ) → int_lt (x +ℤ y) (pos 0) ≡ false → int_le (pos 0) (x +ℤ y) ≡ true
sum_is x y e = grind (arith, ints)

around_zero : (low high : ℤ) → (int_lt (pos 0) low || int_lt high (pos 0)) ≡ false → (low ≤ℤ pos 0) × (pos 0 ≤ℤ high)
around_zero low high e = (grind (arith, ints), grind (arith, ints))

module _ (sets : Sets) (ends : AllEnds sets) (left right : Lin) (l : IsOperand sets left) (r : IsOperand sets right) (h : AreApart sets ends left right)
    (v : Valuation) where
  abbrev mine : Pair
  mine = pair_under left right v

  a : IsStretched sets left h.first.symbol
  a = stretched sets ends left l.is_term h.first

  b : IsStretched sets right h.second.symbol
  b = stretched sets ends right r.is_term h.second

  abbrev left_low : ℤ
  left_low = value_at left a.at_low

  abbrev left_high : ℤ
  left_high = value_at left a.at_high

  abbrev right_low : ℤ
  right_low = value_at right b.at_low

  abbrev right_high : ℤ
  right_high = value_at right b.at_high

  -- the ends of the difference, and those of the sum
  abbrev difference : Interval
  difference = record { low = left_low -ℤ right_high; high = left_high -ℤ right_low }

  abbrev sum : Interval
  sum = record { low = left_low +ℤ right_low; high = left_high +ℤ right_high }

  difference_bounds : (w : Valuation) → Fits w sets → IsBetween difference.low difference.high (value_of w left -ℤ value_of w right)
  difference_bounds w fits =
      let x = a.bounds w fits in
      let y = b.bounds w fits in
      (omega (arith, ints, x.0, y.1), omega (arith, ints, x.1, y.0))

  sum_bounds : (w : Valuation) → Fits w sets → IsBetween sum.low sum.high (value_of w left +ℤ value_of w right)
  sum_bounds w fits =
      let x = a.bounds w fits in
      let y = b.bounds w fits in
      (omega (arith, ints, x.0, y.0), omega (arith, ints, x.1, y.1))

  -- a truth that differs at the corners of the least and of the greatest difference
  by_difference : (test : Pair → Bool) (x : Bool) → test (left_low, right_high) ≡ x → test (left_high, right_low) ≡ not x
      → HasSome sets left right v (λ others. are_spread mine others && truth_differs test mine others)
  by_difference test x here there =
      of_two sets left right v (λ others. are_spread mine others && truth_differs test mine others)
      (tested sets left right h.first.symbol h.second.symbol h.first.over h.second.over h.apart v test a.at_low a.at_high b.at_high b.at_low
      (record {
        p_end = a.low_end;
        o_end = a.high_end;
        q_end = b.high_end;
        r_end = b.low_end;
        left_apart = below_apart _ _ a.order;
        right_apart = λ e. below_apart _ _ b.order (sym e);
      }) x here there)

  -- the same for the sum
  by_sum : (test : Pair → Bool) (x : Bool) → test (left_low, right_low) ≡ x → test (left_high, right_high) ≡ not x
      → HasSome sets left right v (λ others. are_spread mine others && truth_differs test mine others)
  by_sum test x here there =
      of_two sets left right v (λ others. are_spread mine others && truth_differs test mine others)
      (tested sets left right h.first.symbol h.second.symbol h.first.over h.second.over h.apart v test a.at_low a.at_high b.at_low b.at_high
      (record {
        p_end = a.low_end;
        o_end = a.high_end;
        q_end = b.low_end;
        r_end = b.high_end;
        left_apart = below_apart _ _ a.order;
        right_apart = below_apart _ _ b.order;
      }) x here there)

  around : (int_lt (pos 0) difference.low || int_lt difference.high (pos 0)) ≡ false
      → HasSome sets left right v (λ others. comparison_ground Equal mine others)
  around e =
      let sides = around_zero difference.low difference.high e in
      let x = a.order in
      let y = b.order in
      of_two sets left right v (λ others. comparison_ground Equal mine others)
      (met sets left right h.first.symbol h.second.symbol h.first.over h.second.over h.apart v a.at_low a.at_high b.at_high b.at_low
      (record {
        p_end = a.low_end;
        o_end = a.high_end;
        q_end = b.high_end;
        r_end = b.low_end;
        left_apart = below_apart _ _ a.order;
        right_apart = λ e. below_apart _ _ b.order (sym e);
      }) sides.0 sides.1 (omega (arith, ints)))

  by_ends : (op : CmpOp) → holds_between op difference ≡ false → holds_between (opposite_of op) difference ≡ false
      → HasSome sets left right v (λ others. comparison_ground op mine others)
  by_ends Less e f = by_difference (λ pair. compares Less pair.0 pair.1) true (less_is left_low right_high f) (less_not left_high right_low e)
  by_ends AtMost e f = by_difference (λ pair. compares AtMost pair.0 pair.1) true (at_most_is left_low right_high f) (at_most_not left_high right_low e)
  by_ends More e f = by_difference (λ pair. compares More pair.0 pair.1) false (more_not left_low right_high e) (more_is left_high right_low f)
  by_ends AtLeast e f =
      by_difference (λ pair. compares AtLeast pair.0 pair.1) false (at_least_not left_low right_high e) (at_least_is left_high right_low f)
  by_ends Equal e f = around f
  by_ends Differs e f = around e

  pub compared : (op : CmpOp) → ¬ IsDecided sets op (λ w. value_of w left -ℤ value_of w right)
      → HasSome sets left right v (λ others. comparison_ground op mine others)
  compared op n = undecided (holds_between op difference) (holds_between (opposite_of op) difference)
      (λ t. absurd (n (decided_true sets (λ w. value_of w left -ℤ value_of w right) difference difference_bounds op t)))
      (λ t. absurd (n (decided_false sets (λ w. value_of w left -ℤ value_of w right) difference difference_bounds op t)))
      (λ e f. by_ends op e f)

  pub ordered : ¬ IsDecided sets AtLeast (λ w. value_of w left +ℤ value_of w right)
      → HasSome sets left right v (λ others. are_spread mine others && truth_differs (λ pair. int_le (pos 0) (pair.0 +ℤ pair.1)) mine others)
  ordered n = undecided (holds_between AtLeast sum) (holds_between Less sum)
      (λ t. absurd (n (decided_true sets (λ w. value_of w left +ℤ value_of w right) sum sum_bounds AtLeast t)))
      (λ t. absurd (n (decided_false sets (λ w. value_of w left +ℤ value_of w right) sum sum_bounds AtLeast t)))
      (λ e f. by_sum (λ pair. int_le (pos 0) (pair.0 +ℤ pair.1)) false e (sum_is left_high right_high f))
