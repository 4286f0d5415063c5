-- Operators of two integers: if one isn't followed exactly, some corners are the ground of its guess.
use Rattle.std.proofs.Common.{◌≡◌, ◌≢◌, ◌⊎◌, inl, inr, ℕ, Bool, true, false, ◌&&◌, ◌||◌, ℤ, Some, refl, sym, ap}
use Rattle.std.proofs.Common.{◌∙◌, arith}
use Rattle.std.specs.Prelude.{◌<ℤ◌}
use Rattle.std.proofs.lemmas.Int.{ints}
use Rattle.cs_ast.specs.declared.typed.operator.BinOp.{BinOp}
use Rattle.cs_ast.specs.declared.typed.operator.BinOp.TheVariants.{Add, Sub, Mul, Div, Rem, Shl, Shr, And, Xor, Or}
use Rattle.cs_terms.specs.declared.symbol.Sym.{Sym}
use Rattle.cs_terms.specs.declared.term.Lin.{Lin}
use Rattle.cs_terms.specs.Term.{Valuation}
use Rattle.cs_constraints.specs.Constraints.{Sets}
use Rattle.cs_eval.specs.Followed.{AreFixed, IsFollowedNear}
use Rattle.cs_eval.specs.Operands.{IsFixed, AreOverOne}
use Rattle.cs_results.specs.declared.run.Others.{Others}
use Rattle.cs_results.specs.declared.run.Others.TheVariants.{Two}
use Rattle.cs_findings.specs.Grounds.{Pair, left_differs, right_differs, either_differs, are_spread, binary_ground}
use Rattle.cs_corners.specs.Operands.{IsOperand}
use Rattle.cs_corners.proofs.Choices.{HasSome, of_two, weaker, theirs, left_moves, right_moves, either_moves, of_one}
use Rattle.cs_corners.proofs.Ends.{AllEnds}
use Rattle.cs_corners.proofs.Partners.{pair_under, HasTwo, spread}
use Rattle.cs_corners.proofs.Spread.{or_first, or_second, and_both}
use Rattle.cs_corners.proofs.Terms.{IsMovable, stretched, fixed_or_movable}

-- two operands over different symbols that both have two numbers
pub record AreApart (sets : Sets) (ends : AllEnds sets) (left right : Lin) : Type 0 where
  pub first : IsMovable sets ends left
  pub second : IsMovable sets ends right
  pub apart : first.symbol.0 ≢ second.symbol.0

pub below_apart : (x y : ℤ) → x <ℤ y → x ≢ y
below_apart x y lt e = absurd (omega (arith, ints))

module _ (sets : Sets) (ends : AllEnds sets) (left right : Lin) (l : IsOperand sets left) (r : IsOperand sets right) where
  left_is : IsFixed sets left ⊎ IsMovable sets ends left
  left_is = fixed_or_movable sets ends left l.declared

  right_is : IsFixed sets right ⊎ IsMovable sets ends right
  right_is = fixed_or_movable sets ends right r.declared

  pub left_movable : ¬ IsFixed sets left → IsMovable sets ends left
  left_movable n = elim left_is [ inl f ↦ absurd (n f) | inr m ↦ m ]

  pub right_movable : ¬ IsFixed sets right → IsMovable sets ends right
  right_movable n = elim right_is [ inl f ↦ absurd (n f) | inr m ↦ m ]

  pub one_movable : ¬ AreFixed sets left right → IsMovable sets ends left ⊎ IsMovable sets ends right
  one_movable n = elim left_is [ inl f ↦ inr (right_movable (λ g. n (f, g))) | inr m ↦ inl m ]

  pub over_two : ¬ AreOverOne sets left right → AreApart sets ends left right
  over_two n =
      let a = left_movable (λ f. n (inl f)) in
      let b = right_movable (λ f. n (inr (inl f))) in
      let made : ℕ → Sym = λ k. record { 0 = k } in
      record { first = a; second = b; apart = λ e. n (inr (inr (a.over ∙ ap (λ (k : ℕ). Some (made k)) e ∙ sym b.over))) }

  module _ (v : Valuation) where
    abbrev mine : Pair
    mine = pair_under left right v

    -- the pair of operands at the corner where each operand that can differ does
    abbrev there : Others Pair
    there = theirs sets ends left right l r v

    by_other : (test : Others Pair → Bool) → test there ≡ true → HasSome sets left right v test
    by_other = of_one sets ends left right l r v

    either : IsMovable sets ends left ⊎ IsMovable sets ends right → either_differs mine there ≡ true
    either = either_moves sets ends left right l r v

    pub spread_corners : AreApart sets ends left right → HasTwo sets left right v (λ first second. are_spread mine (Two first second))
    spread_corners h =
        let a = stretched sets ends left l.is_term h.first in
        let b = stretched sets ends right r.is_term h.second in
        spread sets left right h.first.symbol h.second.symbol h.first.over h.second.over h.apart v a.at_low a.at_high b.at_low b.at_high
        (record {
          p_end = a.low_end;
          o_end = a.high_end;
          q_end = b.low_end;
          r_end = b.high_end;
          left_apart = below_apart _ _ a.order;
          right_apart = below_apart _ _ b.order;
        })

    -- some operand isn't constant
    pub some_differs : ¬ AreFixed sets left right → HasSome sets left right v (λ others. either_differs mine others)
    some_differs n = by_other (λ others. either_differs mine others) (either (one_movable n))

    sum : (far : Bool) → ¬ AreFixed sets left right → ¬ (AreOverOne sets left right × (far ≡ false))
        → HasSome sets left right v (λ others. are_spread mine others || (either_differs mine others && far))
    sum true n o =
        by_other (λ others. are_spread mine others || (either_differs mine others && true))
        (or_second _ _ (and_both (either_differs mine there) true (either (one_movable n)) refl))
    sum false n o =
        of_two sets left right v (λ others. are_spread mine others || (either_differs mine others && false))
        (weaker sets left right v (λ first second. are_spread mine (Two first second)) _ (λ first second t. or_first _ _ t)
        (spread_corners (over_two (λ one. o (one, refl)))))

    product : (far : Bool) → ¬ AreFixed sets left right → ¬ ((IsFixed sets left ⊎ IsFixed sets right) × (far ≡ false))
        → HasSome sets left right v (λ others. (left_differs mine others && right_differs mine others) || (either_differs mine others && far))
    product true n o =
        by_other (λ others. (left_differs mine others && right_differs mine others) || (either_differs mine others && true))
        (or_second (left_differs mine there && right_differs mine there) _ (and_both (either_differs mine there) true (either (one_movable n)) refl))
    product false n o =
        let a = left_movable (λ f. o (inl f, refl)) in
        let b = right_movable (λ f. o (inr f, refl)) in
        by_other (λ others. (left_differs mine others && right_differs mine others) || (either_differs mine others && false))
        (or_first _ (either_differs mine there && false) (and_both _ _ (left_moves sets ends left right l r v a) (right_moves sets ends left right l r v b)))

    shift : (far : Bool) → ¬ AreFixed sets left right → ¬ (IsFixed sets right × (far ≡ false))
        → HasSome sets left right v (λ others. right_differs mine others || (left_differs mine others && far))
    shift far n o = by right_is far refl
      where
        by : IsFixed sets right ⊎ IsMovable sets ends right → (f : Bool) → far ≡ f
            → HasSome sets left right v (λ others. right_differs mine others || (left_differs mine others && far))
        by (inr b) f e =
            by_other (λ others. right_differs mine others || (left_differs mine others && far))
            (or_first _ (left_differs mine there && far) (right_moves sets ends left right l r v b))
        by (inl g) true e =
            let a = left_movable (λ f. n (f, g)) in
            by_other (λ others. right_differs mine others || (left_differs mine others && far))
            (or_second (right_differs mine there) _ (and_both _ _ (left_moves sets ends left right l r v a) e))
        by (inl g) false e = absurd (o (g, e))

    -- all operators. `far` may be any truth here
    pub binary : (op : BinOp) (far : Bool) → ¬ AreFixed sets left right → ¬ (IsFollowedNear sets op left right × (far ≡ false))
        → HasSome sets left right v (λ others. binary_ground op far mine others)
    binary Add far n o = sum far n o
    binary Sub far n o = sum far n o
    binary Mul far n o = product far n o
    binary Shl far n o = shift far n o
    binary Div far n o = some_differs n
    binary Rem far n o = some_differs n
    binary Shr far n o = some_differs n
    binary And far n o = some_differs n
    binary Xor far n o = some_differs n
    binary Or far n o = some_differs n
