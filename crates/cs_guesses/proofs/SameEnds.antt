-- Whether an operation is followed exactly, and what may be guessed instead of its result, depends only on the ends of its operands' ranges: for `IsInexact`.
use Rattle.std.proofs.Common.{◌≡◌, ◌⊎◌, inl, inr, ℕ, Bool, true, false, ℤ, pos, ◌+ℤ◌, ◌-ℤ◌, List, Option, None, Some, refl, sym}
use Rattle.std.proofs.Common.{ap, subst, ◌∙◌, arith}
use Rattle.std.specs.Prelude.{◌≤ℤ◌, int_le, int_lt, IsTrue}
use Rattle.std.proofs.lemmas.Bool.Decides.{eqb_tells}
use Rattle.std.proofs.lemmas.Int.{ints}
use Rattle.std.proofs.lemmas.Option.{same_Some}
use Rattle.cs_types.specs.declared.data_model.DataModel.{DataModel}
use Rattle.cs_types.specs.declared.int_type.IntType.{IntType}
use Rattle.cs_ranges.specs.declared.range_set.Interval.{Interval}
use Rattle.cs_ranges.specs.RangeSet.{contains, IsOnly, IsLeast, IsGreatest}
use Rattle.cs_ast.specs.declared.typed.operator.BinOp.{BinOp}
use Rattle.cs_ast.specs.declared.typed.operator.BinOp.TheVariants.{Add, Sub, Mul, Div, Rem, Shl, Shr, And, Xor, Or}
use Rattle.cs_ast.specs.declared.typed.operator.CmpOp.{CmpOp}
use Rattle.cs_ast.specs.declared.typed.operator.CmpOp.TheVariants.{Less, AtMost, More, AtLeast, Equal, Differs}
use Rattle.cs_terms.specs.declared.symbol.Sym.{Sym}
use Rattle.cs_terms.specs.declared.term.Lin.{Lin}
use Rattle.cs_terms.specs.Term.{Valuation, value_of, value_at}
use Rattle.cs_constraints.specs.Constraints.{Sets, set_of, Fits, AreInhabited}
use Rattle.cs_constraints.proofs.Assuming.{fitting}
use Rattle.cs_state.specs.declared.asked.Asks.{Asks}
use Rattle.cs_state.specs.declared.asked.Asks.TheVariants as asks
use Rattle.cs_eval.specs.declared.question.Question.{Question}
use Rattle.cs_eval.specs.Followed.{Numbers, Always, IsDecided, AreFixed, IsFollowedNear, FitsFixed, IsDivided, IsFollowed, IsBinaryGuess, IsGuess}
use Rattle.cs_eval.specs.Noted.{IsQuestionOf, IsRangeOf}
use Rattle.cs_eval.specs.Operands.{IsFixed, AreOverOne}
use Rattle.cs_corners.specs.Corners.{IsEnd}
use Rattle.cs_corners.specs.Operands.{IsOperand, HasOperands}
use Rattle.cs_corners.proofs.Binaries.{AreApart}
use Rattle.cs_corners.proofs.Ends.{AllEnds, all_ends, which_end}
use Rattle.cs_corners.proofs.Moving.{moved, moved_here, moved_elsewhere}
use Rattle.cs_corners.proofs.Rectangles.{AreOf, which_of, corner, corner_left, corner_right, corner_is}
use Rattle.cs_corners.proofs.Terms.{IsStretched, fixed_or_movable, stretched}
use Rattle.cs_guesses.proofs.Operands.{IsNoProduct}

-- the symbol with this number
abbrev pub named : ℕ → Sym
named number = record { 0 = number }

-- a value between two that a number has under valuations that fit
pub record LiesBetween (others : Sets) (number : Numbers) (value : ℤ) : Type 0 where
  pub low : Valuation
  pub high : Valuation
  pub low_fits : Fits low others
  pub high_fits : Fits high others
  pub least : number low ≤ℤ value
  pub greatest : value ≤ℤ number high

-- a comparison with 0 that holds at both ends holds between them, and one that fails at both fails between them
below : (x high : ℤ) → x ≤ℤ high → int_lt high (pos 0) ≡ true → int_lt x (pos 0) ≡ true
below x high upto e = grind (arith, ints)

not_below : (x low : ℤ) → low ≤ℤ x → int_lt low (pos 0) ≡ false → int_lt x (pos 0) ≡ false
not_below x low from e = grind (arith, ints)

at_most : (x high : ℤ) → x ≤ℤ high → int_le high (pos 0) ≡ true → int_le x (pos 0) ≡ true
at_most x high upto e = grind (arith, ints)

not_at_most : (x low : ℤ) → low ≤ℤ x → int_le low (pos 0) ≡ false → int_le x (pos 0) ≡ false
not_at_most x low from e = grind (arith, ints)

above : (x low : ℤ) → low ≤ℤ x → int_lt (pos 0) low ≡ true → int_lt (pos 0) x ≡ true
above x low from e = grind (arith, ints)

not_above : (x high : ℤ) → x ≤ℤ high → int_lt (pos 0) high ≡ false → int_lt (pos 0) x ≡ false
not_above x high upto e = grind (arith, ints)

at_least : (x low : ℤ) → low ≤ℤ x → int_le (pos 0) low ≡ true → int_le (pos 0) x ≡ true
at_least x low from e = grind (arith, ints)

not_at_least : (x high : ℤ) → x ≤ℤ high → int_le (pos 0) high ≡ false → int_le (pos 0) x ≡ false
not_at_least x high upto e = grind (arith, ints)

module _ (sets others : Sets) (number : Numbers) (between : (v : Valuation) → Fits v sets → LiesBetween others number (number v)) where
  abbrev Passes : CmpOp → Bool → Type 0
  Passes op holds = Always others op number holds → Always sets op number holds

  is_below : Passes Less true
  is_below always v fits = let b = between v fits in below (number v) (number b.high) b.greatest (always b.high b.high_fits)

  is_above : Passes More true
  is_above always v fits = let b = between v fits in above (number v) (number b.low) b.least (always b.low b.low_fits)

  -- so a comparison that is decided under the other ranges is decided under these
  decided : (op : CmpOp) → IsDecided others op number → IsDecided sets op number
  decided Equal (inl always) = inl (is_above always)
  decided Equal (inr always) = inr (is_below always)
  decided Differs (inl always) = inl (is_above always)
  decided Differs (inr always) = inr (is_below always)
  decided Less (inl always) = inl (is_below always)
  decided Less (inr always) = inr (λ v fits. let b = between v fits in not_below (number v) (number b.low) b.least (always b.low b.low_fits))
  decided AtMost (inl always) = inl (λ v fits. let b = between v fits in at_most (number v) (number b.high) b.greatest (always b.high b.high_fits))
  decided AtMost (inr always) = inr (λ v fits. let b = between v fits in not_at_most (number v) (number b.low) b.least (always b.low b.low_fits))
  decided More (inl always) = inl (is_above always)
  decided More (inr always) = inr (λ v fits. let b = between v fits in not_above (number v) (number b.high) b.greatest (always b.high b.high_fits))
  decided AtLeast (inl always) = inl (λ v fits. let b = between v fits in at_least (number v) (number b.low) b.least (always b.low b.low_fits))
  decided AtLeast (inr always) = inr (λ v fits. let b = between v fits in not_at_least (number v) (number b.high) b.greatest (always b.high b.high_fits))

-- a term has the same value if its symbol has the same number
same_value : (term : Lin) (v w : Valuation) → ((s : Sym) → term.sym ≡ Some s → w s.0 ≡ v s.0) → value_of w term ≡ value_of v term
same_value term v w same = by term.sym same
  where
    by : (symbol : Option Sym) → ((s : Sym) → symbol ≡ Some s → w s.0 ≡ v s.0)
        → value_of w (record term { sym = symbol }) ≡ value_of v (record term { sym = symbol })
    by None same = refl
    by (Some s) same = rw (same s refl) refl

-- a symbol whose range has the same ends in both sets
module _ (sets others : Sets) (symbol : Option Sym) (ends : Interval) (here : IsRangeOf sets symbol ends) (there : IsRangeOf others symbol ends) where
  -- has only one number in both or in neither
  only_here : (s : Sym) (over : symbol ≡ Some s) (set : List Interval) (number : ℤ) → set_of others s.0 ≡ Some set → IsOnly set number
      → IsOnly (here s over).0 number
  only_here s over set number known only =
      let near = here s over in
      let far = there s over in
      let alone = subst (λ (z : List Interval). IsOnly z number) (same_Some set far.0 (sym known ∙ far.1)) only in
      let low = alone.alone ends.low far.2.member in
      let high = alone.alone ends.high far.3.member in
      record {
        member = subst (λ (x : ℤ). IsTrue (contains near.0 x)) low near.2.member;
        alone = λ y member. let p = near.2.least y member in let q = near.3.greatest y member in omega (arith, ints, low, high);
      }

  -- and an end in one is an end in the other
  end_there : (s : Sym) → symbol ≡ Some s → (number : ℤ) → IsEnd sets s number → IsEnd others s number
  end_there s over number is =
      let near = here s over in
      let far = there s over in
      record {
        set = far.0;
        known = far.1;
        at_end = elim (which_end sets s near.0 ends.low ends.high number near.1 near.2 near.3 is) [
          | inl low ↦ inl (subst (IsLeast far.0) (sym low) far.2)
          | inr high ↦ inr (subst (IsGreatest far.0) (sym high) far.3)
        ];
      }

module _ (sets others : Sets) (term : Lin) (ends : Interval) (here : IsRangeOf sets term.sym ends) (there : IsRangeOf others term.sym ends) where
  fixed_here : IsFixed others term → IsFixed sets term
  fixed_here (inl none) = inl none
  fixed_here (inr (number, one)) = inr (
    number,
    record {
      sym = one.sym;
      set = (here one.sym one.symbol_is).0;
      symbol_is = one.symbol_is;
      set_is = (here one.sym one.symbol_is).1;
      only = only_here sets others term.sym ends here there one.sym one.symbol_is one.set number one.set_is one.only;
    },
  )

module _ (sets others : Sets) (inhabited : AreInhabited sets) (there_inhabited : AreInhabited others) (left right : Lin) (left_ends right_ends : Interval)
    (left_here : IsRangeOf sets left.sym left_ends) (left_there : IsRangeOf others left.sym left_ends)
    (right_here : IsRangeOf sets right.sym right_ends) (right_there : IsRangeOf others right.sym right_ends) where
  left_fixed : IsFixed others left → IsFixed sets left
  left_fixed = fixed_here sets others left left_ends left_here left_there

  right_fixed : IsFixed others right → IsFixed sets right
  right_fixed = fixed_here sets others right right_ends right_here right_there

  both_fixed : AreFixed others left right → AreFixed sets left right
  both_fixed (l, r) = (left_fixed l, right_fixed r)

  over_one : AreOverOne others left right → AreOverOne sets left right
  over_one (inl f) = inl (left_fixed f)
  over_one (inr (inl f)) = inr (inl (right_fixed f))
  over_one (inr (inr same)) = inr (inr same)

  -- some valuation fits the other ranges
  base : Valuation
  base = (fitting others there_inhabited).0

  base_fits : Fits base others
  unfolding base
  base_fits = (fitting others there_inhabited).1

  -- sums and differences of two operands over different symbols are between those at the ends, which the other ranges have too
  module _ (all : AllEnds sets) (l : IsOperand sets left) (r : IsOperand sets right) (h : AreApart sets all left right) where
    a : IsStretched sets left h.first.symbol
    a = stretched sets all left l.is_term h.first

    b : IsStretched sets right h.second.symbol
    b = stretched sets all right r.is_term h.second

    at_ends : ℤ → ℤ → Valuation
    at_ends p q = corner others left right h.first.symbol h.second.symbol h.first.over h.second.over h.apart base p q

    left_at : (p q : ℤ) → value_of (at_ends p q) left ≡ value_at left p
    unfolding at_ends
    left_at p q = corner_left others left right h.first.symbol h.second.symbol h.first.over h.second.over h.apart base p q

    right_at : (p q : ℤ) → value_of (at_ends p q) right ≡ value_at right q
    unfolding at_ends
    right_at p q = corner_right others left right h.first.symbol h.second.symbol h.first.over h.second.over h.apart base p q

    ends_fit : (p q : ℤ) → IsEnd sets h.first.symbol p → IsEnd sets h.second.symbol q → Fits (at_ends p q) others
    unfolding at_ends
    ends_fit p q p_end q_end =
        (corner_is others left right h.first.symbol h.second.symbol h.first.over h.second.over h.apart base p q
        (end_there sets others left.sym left_ends left_here left_there h.first.symbol h.first.over p p_end)
        (end_there sets others right.sym right_ends right_here right_there h.second.symbol h.second.over q q_end)).fits base_fits

    difference_between : (v : Valuation) → Fits v sets
        → LiesBetween others (λ w. value_of w left -ℤ value_of w right) (value_of v left -ℤ value_of v right)
    difference_between v fits =
        let x = a.bounds v fits in
        let y = b.bounds v fits in
        let l = left_at a.at_low b.at_high in
        let k = right_at a.at_low b.at_high in
        let m = left_at a.at_high b.at_low in
        let n = right_at a.at_high b.at_low in
        record {
          low = at_ends a.at_low b.at_high;
          high = at_ends a.at_high b.at_low;
          low_fits = ends_fit a.at_low b.at_high a.low_end b.high_end;
          high_fits = ends_fit a.at_high b.at_low a.high_end b.low_end;
          least = omega (arith, ints, x.0, y.1, l, k);
          greatest = omega (arith, ints, x.1, y.0, m, n);
        }

    sum_between : (v : Valuation) → Fits v sets
        → LiesBetween others (λ w. value_of w left +ℤ value_of w right) (value_of v left +ℤ value_of v right)
    sum_between v fits =
        let x = a.bounds v fits in
        let y = b.bounds v fits in
        let l = left_at a.at_low b.at_low in
        let k = right_at a.at_low b.at_low in
        let m = left_at a.at_high b.at_high in
        let n = right_at a.at_high b.at_high in
        record {
          low = at_ends a.at_low b.at_low;
          high = at_ends a.at_high b.at_high;
          low_fits = ends_fit a.at_low b.at_low a.low_end b.low_end;
          high_fits = ends_fit a.at_high b.at_high a.high_end b.high_end;
          least = omega (arith, ints, x.0, y.0, l, k);
          greatest = omega (arith, ints, x.1, y.1, m, n);
        }

  -- both operands are over one symbol, or over two
  one_or_apart : IsOperand sets left → IsOperand sets right → AreOverOne sets left right ⊎ AreApart sets (all_ends sets inhabited) left right
  one_or_apart l r = elim (fixed_or_movable sets (all_ends sets inhabited) left l.declared) [
    | inl f ↦ inl (inl f)
    | inr m ↦ elim (fixed_or_movable sets (all_ends sets inhabited) right r.declared) [
      | inl f ↦ inl (inr (inl f))
      | inr n ↦ elim (eqb_tells m.symbol.0 n.symbol.0) [
        | inl same ↦ inl (inr (inr (m.over ∙ ap (λ (k : ℕ). Some (named k)) same.1 ∙ sym n.over)))
        | inr differ ↦ inr (record { first = m; second = n; apart = differ.1 })
      ]
    ]
  ]

  compared : IsOperand sets left → IsOperand sets right → (op : CmpOp)
      → AreOverOne others left right ⊎ IsDecided others op (λ w. value_of w left -ℤ value_of w right)
      → AreOverOne sets left right ⊎ IsDecided sets op (λ w. value_of w left -ℤ value_of w right)
  compared l r op (inl one) = inl (over_one one)
  compared l r op (inr known) = elim (one_or_apart l r) [
    | inl one ↦ inl one
    | inr h ↦ inr (decided sets others (λ w. value_of w left -ℤ value_of w right) (difference_between (all_ends sets inhabited) l r h) op known)
  ]

  ordered : IsOperand sets left → IsOperand sets right
      → AreOverOne others left right ⊎ IsDecided others AtLeast (λ w. value_of w left +ℤ value_of w right)
      → AreOverOne sets left right ⊎ IsDecided sets AtLeast (λ w. value_of w left +ℤ value_of w right)
  ordered l r (inl one) = inl (over_one one)
  ordered l r (inr known) = elim (one_or_apart l r) [
    | inl one ↦ inl one
    | inr h ↦ inr (decided sets others (λ w. value_of w left +ℤ value_of w right) (sum_between (all_ends sets inhabited) l r h) AtLeast known)
  ]

  -- a division without a remainder doesn't depend on other symbols
  divided : (size : ℕ) → IsDivided others left right size → IsDivided sets left right size
  divided size even v fits =
      let same_left = same_value left v w (λ s over. moved_here (AreOf left right) (which_of left right) v base s (inl over)) in
      let same_right = same_value right v w (λ s over. moved_here (AreOf left right) (which_of left right) v base s (inr over)) in
      let found = even w fits_there in
      (found.0, ap2 same_left same_right ∙ found.1)
    where
      w : Valuation
      w = moved (AreOf left right) (which_of left right) v base

      ap2 : {a b c d : ℤ} → a ≡ c → b ≡ d → c -ℤ d ≡ a -ℤ b
      ap2 e f = λ i. sym e i -ℤ sym f i

      of_symbol : (symbol : Option Sym) (ends : Interval) → IsRangeOf sets symbol ends → IsRangeOf others symbol ends
          → (s : Sym) → symbol ≡ Some s → (set : List Interval) (number : ℤ) → set_of others s.0 ≡ Some set → IsOnly set number
          → v s.0 ≡ number
      of_symbol symbol ends here there s over set number known only =
          fits s.0 (here s over).0 number (here s over).1 (only_here sets others symbol ends here there s over set number known only)

      fits_there : FitsFixed w others
      fits_there n set number known only = elim (which_of left right (named n)) [
        | inl (inl over) ↦
            moved_here (AreOf left right) (which_of left right) v base (named n) (inl over)
            ∙ of_symbol left.sym left_ends left_here left_there (named n) over set number known only
        | inl (inr over) ↦
            moved_here (AreOf left right) (which_of left right) v base (named n) (inr over)
            ∙ of_symbol right.sym right_ends right_here right_there (named n) over set number known only
        | inr not ↦ moved_elsewhere (AreOf left right) (which_of left right) v base (named n) not ∙ only.alone (base n) (base_fits n set known)
      ]

  near : (op : BinOp) → IsFollowedNear others op left right → IsFollowedNear sets op left right
  near Add one = over_one one
  near Sub one = over_one one
  near Mul (inl f) = inl (left_fixed f)
  near Mul (inr f) = inr (right_fixed f)
  near Shl f = right_fixed f
  near Div f = both_fixed f
  near Rem f = both_fixed f
  near Shr f = both_fixed f
  near And f = both_fixed f
  near Xor f = both_fixed f
  near Or f = both_fixed f

  may : (model : DataModel) (op : BinOp) (ty : IntType) (v : Valuation) (number : ℤ) → IsBinaryGuess model sets op ty left right v number
      → IsBinaryGuess model others op ty left right v number
  may model Rem ty v number guess = (guess.0, λ f. guess.1 (right_fixed f))
  may model And ty v number guess = (guess.0, λ f. guess.1 (left_fixed f), λ f. guess.2 (right_fixed f))
  may model Add ty v number guess = guess
  may model Sub ty v number guess = guess
  may model Mul ty v number guess = guess
  may model Div ty v number guess = guess
  may model Shl ty v number guess = guess
  may model Shr ty v number guess = guess
  may model Xor ty v number guess = guess
  may model Or ty v number guess = guess

  -- what is followed under the other ranges is followed under these
  pub followed_here : (model : DataModel) (v : Valuation) (kind : Asks) (meant : Question) → IsQuestionOf kind left right meant → IsNoProduct meant
      → HasOperands sets v meant → IsFollowed model others meant v → IsFollowed model sets meant v
  followed_here model v kind meant is none operands followed = by kind meant is none operands followed
    where
      -- the lemma for one question
      Passes : Question → Type 0
      Passes meant = IsNoProduct meant → HasOperands sets v meant → IsFollowed model others meant v → IsFollowed model sets meant v

      by : (kind : Asks) (meant : Question) → IsQuestionOf kind left right meant → Passes meant
      by (asks.Binary op ty) meant is = subst Passes (sym is) (λ none operands followed. elim followed [
        | inl f ↦ inl (both_fixed f)
        | inr close ↦ inr (near op close.0, close.1)
      ])
      by (asks.Convert ty) meant is = subst Passes (sym is) (λ none operands followed. elim followed [
        | inl f ↦ inl (left_fixed f)
        | inr close ↦ inr close
      ])
      by (asks.Compare op) meant is = subst Passes (sym is) (λ none operands followed. compared operands.0 operands.1 op followed)
      by asks.Order meant is = subst Passes (sym is) (λ none operands followed. ordered operands.0 operands.1 followed)
      by asks.Product meant is = subst Passes (sym is) (λ none operands followed. absurd none)
      by asks.Sum meant is = subst Passes (sym is.1) (λ none operands followed. elim followed [
        | inl one ↦ inl (over_one one)
        | inr empty ↦ inr empty
      ])
      by asks.Difference meant is = subst Passes (sym is.1) (λ none operands followed. elim followed [
        | inl f ↦ inl (both_fixed f)
        | inr (inl even) ↦ inr (inl (over_one even.0, divided is.0 even.1))
        | inr (inr empty) ↦ inr (inr empty)
      ])

  -- and what may be guessed under these ranges may be guessed under the others
  pub guessed_there : (model : DataModel) (v : Valuation) (number : ℤ) (kind : Asks) (meant : Question) → IsQuestionOf kind left right meant
      → IsGuess model sets meant v number → IsGuess model others meant v number
  guessed_there model v number kind meant is = by kind meant is
    where
      Passes : Question → Type 0
      Passes meant = IsGuess model sets meant v number → IsGuess model others meant v number

      by : (kind : Asks) (meant : Question) → IsQuestionOf kind left right meant → Passes meant
      by (asks.Binary op ty) meant is = subst Passes (sym is) (may model op ty v number)
      by (asks.Convert ty) meant is = subst Passes (sym is) (λ guess. guess)
      by (asks.Compare op) meant is = subst Passes (sym is) (λ guess. guess)
      by asks.Order meant is = subst Passes (sym is) (λ guess. guess)
      by asks.Product meant is = subst Passes (sym is) (λ guess. guess)
      by asks.Sum meant is = subst Passes (sym is.1) (λ guess. guess)
      by asks.Difference meant is = subst Passes (sym is.1) (λ guess. guess)
