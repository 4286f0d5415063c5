-- One or two corners that pass a test.
use Rattle.std.proofs.Common.{◌≡◌, ◌≢◌, ◌⊎◌, inl, inr, Bool, true, None}
use Rattle.cs_terms.specs.declared.symbol.Sym.{Sym}
use Rattle.cs_terms.specs.declared.term.Lin.{Lin}
use Rattle.cs_terms.specs.Term.{Valuation, value_of}
use Rattle.cs_constraints.specs.Constraints.{Sets, set_of}
use Rattle.cs_results.specs.declared.run.Others.{Others}
use Rattle.cs_results.specs.declared.run.Others.TheVariants.{One, Two}
use Rattle.cs_findings.specs.Runs.{each_other}
use Rattle.cs_findings.specs.Grounds.{Pair, left_differs, right_differs, either_differs}
use Rattle.cs_corners.specs.Corners.{IsCornerOf, EachIs}
use Rattle.cs_corners.specs.Operands.{IsOperand}
use Rattle.cs_corners.proofs.Ends.{AllEnds}
use Rattle.cs_corners.proofs.Opposite.{opposite, opposite_is, opposite_differs}
use Rattle.cs_corners.proofs.Partners.{pair_under, HasTwo}
use Rattle.cs_corners.proofs.Rectangles.{AreOf, which_of}
use Rattle.cs_corners.proofs.Spread.{not_equal, or_first, or_second}
use Rattle.cs_corners.proofs.Terms.{IsMovable}

-- there are one or two corners whose pairs of operands pass a test
pub record HasSome (sets : Sets) (left right : Lin) (v : Valuation) (test : Others Pair → Bool) : Type 0 where
  pub others : Others Valuation
  pub corners : EachIs (IsCornerOf sets (AreOf left right) v) others
  pub passed : test (each_other (pair_under left right) others) ≡ true

pub of_two : (sets : Sets) (left right : Lin) (v : Valuation) (test : Others Pair → Bool)
    → HasTwo sets left right v (λ first second. test (Two first second)) → HasSome sets left right v test
of_two sets left right v test h = record { others = Two h.first h.second; corners = (h.first_is, h.second_is); passed = h.passed }

-- two corners that pass a test pass a weaker one
pub weaker : (sets : Sets) (left right : Lin) (v : Valuation) (test other : Pair → Pair → Bool)
    → ((first second : Pair) → test first second ≡ true → other first second ≡ true) → HasTwo sets left right v test
    → HasTwo sets left right v other
weaker sets left right v test other more h = record {
  first = h.first;
  second = h.second;
  first_is = h.first_is;
  second_is = h.second_is;
  passed = more _ _ h.passed;
}

module _ (sets : Sets) (ends : AllEnds sets) (left right : Lin) (l : IsOperand sets left) (r : IsOperand sets right) (v : Valuation) where
  pub declared : (s : Sym) → AreOf left right s → set_of sets s.0 ≢ None
  declared s (inl a) = l.declared s a
  declared s (inr b) = r.declared s b

  -- the corner at which each operand that can differ does
  pub other : Valuation
  other = opposite sets ends (AreOf left right) (which_of left right) declared v

  pub other_is : IsCornerOf sets (AreOf left right) v other
  unfolding other
  other_is = opposite_is sets ends (AreOf left right) (which_of left right) declared v

  pub other_left : IsMovable sets ends left → value_of other left ≢ value_of v left
  unfolding other
  other_left m = opposite_differs sets ends (AreOf left right) (which_of left right) declared v left l.is_term m (inl m.over)

  pub other_right : IsMovable sets ends right → value_of other right ≢ value_of v right
  unfolding other
  other_right m = opposite_differs sets ends (AreOf left right) (which_of left right) declared v right r.is_term m (inr m.over)

  abbrev mine : Pair
  mine = pair_under left right v

  abbrev pub theirs : Others Pair
  theirs = One (pair_under left right other)

  pub left_moves : IsMovable sets ends left → left_differs mine theirs ≡ true
  left_moves m = not_equal _ _ (other_left m)

  pub right_moves : IsMovable sets ends right → right_differs mine theirs ≡ true
  right_moves m = not_equal _ _ (other_right m)

  pub either_moves : IsMovable sets ends left ⊎ IsMovable sets ends right → either_differs mine theirs ≡ true
  either_moves (inl m) = or_first (left_differs mine theirs) (right_differs mine theirs) (left_moves m)
  either_moves (inr m) = or_second (left_differs mine theirs) (right_differs mine theirs) (right_moves m)

  pub of_one : (test : Others Pair → Bool) → test theirs ≡ true → HasSome sets left right v test
  of_one test passed = record { others = One other; corners = other_is; passed = passed }
