-- Corners at which the named symbols of a guess's operands have ends, made from those that are the ground to guess: for `HasReasonAt`.
use Rattle.std.proofs.Common.{◌≡◌, ◌≢◌, ◌⊎◌, inl, inr, ℤ, pos, Option, None, Some, slice_get, refl, sym, ap, ◌∙◌, subst}
use Rattle.std.specs.Prelude.{IsTrue}
use Rattle.cs_types.specs.declared.data_model.DataModel.{DataModel}
use Rattle.cs_ranges.specs.Affine.{affine}
use Rattle.cs_ranges.specs.declared.range_set.Interval.{Interval}
use Rattle.cs_terms.specs.declared.symbol.Sym.{Sym}
use Rattle.cs_terms.specs.declared.symbol.SymName.{SymName}
use Rattle.cs_terms.specs.declared.term.Lin.{Lin}
use Rattle.cs_terms.specs.Term.{Valuation, value_of, value_with}
use Rattle.cs_constraints.specs.Constraints.{Sets}
use Rattle.cs_state.specs.declared.asked.Asked.{Asked}
use Rattle.cs_state.specs.declared.asked.Asks.{Asks}
use Rattle.cs_state.specs.declared.asked.Asks.TheVariants as asks
use Rattle.cs_state.specs.Naming.{Naming}
use Rattle.cs_eval.specs.declared.question.Question.{Question}
use Rattle.cs_eval.specs.declared.question.Question.TheVariants as question
use Rattle.cs_eval.specs.Followed.{Mentions, IsFollowed, IsGuess}
use Rattle.cs_eval.specs.Noted.{IsQuestionOf, IsRangeOf}
use Rattle.cs_eval.specs.Questions.{operation_of}
use Rattle.cs_results.specs.declared.run.Others.{Others}
use Rattle.cs_results.specs.declared.run.Others.TheVariants.{One, Two}
use Rattle.cs_findings.specs.Grounds.{Pair, has_ground}
use Rattle.cs_findings.specs.Runs.{each_other}
use Rattle.cs_corners.specs.Corners.{IsCorner, EachIs, operands_under}
use Rattle.cs_corners.specs.Operands.{HasOperands, HasDivisor}
use Rattle.cs_corners.proofs.Ends.{which_end}
use Rattle.cs_corners.proofs.Moving.{moved, moved_here, moved_elsewhere}
use Rattle.cs_corners.proofs.Narrower.{usable}
use Rattle.cs_corners.proofs.Questions.{corners_have}
use Rattle.cs_corners.proofs.Rectangles.{AreOf, which_of}
use Rattle.cs_compared.specs.Computable.{IsComputable}
use Rattle.cs_compared.specs.Wide.{IsSmall}
use Rattle.cs_guesses.specs.Asking.{HasOwnOrEnd, IsMoved}
use Rattle.cs_guesses.specs.Cornered.{IsNamed, IsOfOperand, HasEnd, IsAtEnds, HasOtherCorner, HasReasonAt}
use Rattle.cs_guesses.specs.Inexact.{AreRanges}
use Rattle.cs_guesses.proofs.Corners.{IsOver, is_over_both}
use Rattle.cs_guesses.proofs.SameEnds.{named}

-- the value of a term depends only on its symbol
same_value : (term : Lin) (v w : Valuation) → ((s : Sym) → term.sym ≡ Some s → w s.0 ≡ v s.0) → value_of w term ≡ value_of v term
same_value term v w agree = by term.sym agree
  where
    by : (symbol : Option Sym) → ((s : Sym) → symbol ≡ Some s → w s.0 ≡ v s.0)
        → value_with w symbol term.slope term.at term.value ≡ value_with v symbol term.slope term.at term.value
    by None agree = refl
    by (Some s) agree = ap (affine term.slope term.at term.value) (agree s refl)

abbrev pair_of : Lin → Lin → Valuation → Pair
pair_of left right v = (value_of v left, value_of v right)

same_both : (left right : Lin) (v w : Valuation) → ((s : Sym) → AreOf left right s → w s.0 ≡ v s.0) → pair_of left right w ≡ pair_of left right v
same_both left right v w agree =
    let first = same_value left v w (λ s over. agree s (inl over)) in
    let second = same_value right v w (λ s over. agree s (inr over)) in
    λ i. (first i, second i)

-- and the operands of a question depend only on what it mentions
same_operands : (meant : Question) (v w : Valuation) → ((s : Sym) → Mentions meant s → w s.0 ≡ v s.0)
    → operands_under meant w ≡ operands_under meant v
same_operands (question.Binary op ty left right) v w agree = same_both left right v w agree
same_operands (question.Unary op ty term) v w agree = let value = same_value term v w agree in λ i. (value i, pos 0)
same_operands (question.Convert ty term) v w agree = let value = same_value term v w agree in λ i. (value i, pos 0)
same_operands (question.Compare op left right) v w agree = same_both left right v w agree
same_operands (question.Order first second) v w agree = same_both first second v w agree
same_operands (question.Product count size) v w agree = same_both count size v w agree
same_operands (question.Sum offset amount size) v w agree = same_both offset amount v w agree
same_operands (question.Difference left right size) v w agree = same_both left right v w agree
same_operands (question.Test tested term) v w agree = refl
same_operands (question.Callee function) v w agree = refl

-- a noted question mentions the symbol of its left operand
pub left_mentioned : (kind : Asks) (left right : Lin) (meant : Question) → IsQuestionOf kind left right meant → (s : Sym) → left.sym ≡ Some s
    → Mentions meant s
left_mentioned (asks.Binary op ty) left right meant is s over = subst (λ (q : Question). Mentions q s) (sym is) (inl over)
left_mentioned (asks.Convert ty) left right meant is s over = subst (λ (q : Question). Mentions q s) (sym is) over
left_mentioned (asks.Compare op) left right meant is s over = subst (λ (q : Question). Mentions q s) (sym is) (inl over)
left_mentioned asks.Order left right meant is s over = subst (λ (q : Question). Mentions q s) (sym is) (inl over)
left_mentioned asks.Product left right meant is s over = subst (λ (q : Question). Mentions q s) (sym is) (inl over)
left_mentioned asks.Sum left right meant is s over = subst (λ (q : Question). Mentions q s) (sym is.1) (inl over)
left_mentioned asks.Difference left right meant is s over = subst (λ (q : Question). Mentions q s) (sym is.1) (inl over)

module _ (names : Naming) (asked : Asked) where
  -- whether a symbol has a name
  has_name : (s : Sym) → IsNamed names s ⊎ (¬ IsNamed names s)
  has_name s = by (slice_get names.syms s.0) refl
    where
      by : (name : Option SymName) → slice_get names.syms s.0 ≡ name → IsNamed names s ⊎ (¬ IsNamed names s)
      by None none = inr (λ has. let wrong : None ≡ Some has.0 = sym none ∙ has.1 in cc)
      by (Some name) there = inl (name, there)

  which : (s : Sym) → IsOfOperand names asked s ⊎ (¬ IsOfOperand names asked s)
  which s = elim (which_of asked.left asked.right s) [
    | inl of ↦ elim (has_name s) [ inl has ↦ inl (of, has) | inr hasnt ↦ inr (λ both. hasnt both.1) ]
    | inr not ↦ inr (λ both. not both.0)
  ]

  -- such a valuation has own numbers or noted ends for the symbols of both operands
  pub ends_moved : (v w : Valuation) → IsAtEnds names asked v w → IsMoved asked v w
  ends_moved v w at = record {
    left = own_or_end asked.left.sym asked.ends.left (λ s is. inl is) at.left;
    right = own_or_end asked.right.sym asked.ends.right (λ s is. inr is) at.right;
    others = λ other l r. at.others other (λ of. elim of.0 [ inl a ↦ l a | inr b ↦ r b ]);
  }
    where
      own_or_end : (symbol : Option Sym) (ends : Interval) → ((s : Sym) → symbol ≡ Some s → AreOf asked.left asked.right s)
          → HasEnd names symbol ends w
          → HasOwnOrEnd symbol ends v w
      own_or_end symbol ends of has s is = elim (has_name s) [
        | inl name ↦ inr (has s is name)
        | inr none ↦ inl (at.others s (λ both. none both.1))
      ]

  module _ (meant : Question) (asks_it : IsQuestionOf asked.asks asked.left asked.right meant) (sets : Sets) (ranges : AreRanges asked sets)
      (names_them : (s : Sym) → Mentions meant s → IsNamed names s) (v : Valuation) where
    over : IsOver asked.left asked.right meant
    over = is_over_both asked.asks asked.left asked.right meant asks_it

    mentioned : (s : Sym) → asked.left.sym ≡ Some s → Mentions meant s
    mentioned = left_mentioned asked.asks asked.left asked.right meant asks_it

    -- a corner's numbers for what the question mentions. It needn't mention the right operand of a conversion
    module _ (c : Valuation) where
      numbers : Valuation
      numbers n = elim (over.0 (named n)) [ inl m ↦ c n | inr not ↦ asked.ends.right.low ]

      number_there : (s : Sym) → Mentions meant s → numbers s.0 ≡ c s.0
      unfolding numbers
      number_there s m = by (over.0 s)
        where
          by : (w : Mentions meant s ⊎ (¬ Mentions meant s)) → elim w [ inl m ↦ c s.0 | inr not ↦ asked.ends.right.low ] ≡ c s.0
          by (inl is) = refl
          by (inr not) = absurd (not m)

      number_elsewhere : (s : Sym) → ¬ Mentions meant s → numbers s.0 ≡ asked.ends.right.low
      unfolding numbers
      number_elsewhere s n = by (over.0 s)
        where
          by : (w : Mentions meant s ⊎ (¬ Mentions meant s)) → elim w [ inl m ↦ c s.0 | inr not ↦ asked.ends.right.low ] ≡ asked.ends.right.low
          by (inl is) = absurd (n is)
          by (inr not) = refl

      -- the first valuation with these numbers
      at_corner : Valuation
      at_corner = moved (IsOfOperand names asked) which numbers v

      here : (s : Sym) → Mentions meant s → at_corner s.0 ≡ c s.0
      unfolding at_corner
      here s m = moved_here (IsOfOperand names asked) which numbers v s (over.1 s m, names_them s m) ∙ number_there s m

      operands_there : operands_under meant at_corner ≡ operands_under meant c
      operands_there = same_operands meant c at_corner here

      module _ (u : Valuation) (corner : IsCorner sets meant u c) where
        end_there : (symbol : Option Sym) (ends : Interval) → IsRangeOf sets symbol ends → (s : Sym) → symbol ≡ Some s → Mentions meant s
            → (at_corner s.0 ≡ ends.low) ⊎ (at_corner s.0 ≡ ends.high)
        end_there symbol ends range s is m =
            let known = range s is in
            elim (which_end sets s known.0 ends.low ends.high (c s.0) known.1 known.2 known.3 (corner.ends s m)) [
              | inl low ↦ inl (here s m ∙ low)
              | inr high ↦ inr (here s m ∙ high)
            ]

        right_end : HasEnd names asked.right.sym asked.ends.right at_corner
        unfolding at_corner
        right_end s is has = elim (over.0 s) [
          | inl m ↦ end_there asked.right.sym asked.ends.right ranges.right s is m
          | inr not ↦ inl (moved_here (IsOfOperand names asked) which numbers v s (inr is, has) ∙ number_elsewhere s not)
        ]

        others_own : (other : Sym) → ¬ IsOfOperand names asked other → at_corner other.0 ≡ v other.0
        unfolding at_corner
        others_own other not = moved_elsewhere (IsOfOperand names asked) which numbers v other not

        is_at_ends : IsAtEnds names asked v at_corner
        is_at_ends = record {
          left = λ s is has. end_there asked.left.sym asked.ends.left ranges.left s is (mentioned s is);
          right = right_end;
          others = others_own;
        }

    same_pairs : (others : Others Valuation)
        → each_other (operands_under meant) (each_other at_corner others) ≡ each_other (operands_under meant) others
    same_pairs (One c) = ap One (operands_there c)
    same_pairs (Two c d) = let first = operands_there c in let second = operands_there d in λ i. Two (first i) (second i)

    all_at_ends : (u : Valuation) (others : Others Valuation) → EachIs (IsCorner sets meant u) others
        → EachIs (IsAtEnds names asked v) (each_other at_corner others)
    all_at_ends u (One c) corner = is_at_ends c u corner
    all_at_ends u (Two c d) corners = (is_at_ends c u corners.0, is_at_ends d u corners.1)

    other_corner : (operand : Pair → ℤ) (u c : Valuation) → IsCorner sets meant u c
        → operand (operands_under meant c) ≢ operand (operands_under meant u) → HasOtherCorner names asked meant v u operand
    other_corner operand u c corner differs =
        (at_corner c, is_at_ends c u corner, λ same. differs (ap operand (sym (operands_there c)) ∙ same))

    -- under a valuation for which the operation isn't followed, corners of the first valuation give the ground to guess
    pub reason_at : (model : DataModel) (u : Valuation) → HasOperands sets u meant → HasDivisor sets u meant → ¬ IsFollowed model sets meant u
        → IsGuess model sets meant u (u asked.guess.0) → IsComputable (operation_of u meant) → IsSmall (operands_under meant u)
        → HasReasonAt model names asked meant v u
    reason_at model u operands divisor inexact may computed few =
        let it = corners_have model sets meant u ranges.inhabited operands inexact in
        let usage = usable model sets meant u (u asked.guess.0) ranges.inhabited operands divisor may in
        record {
          others = each_other at_corner it.others;
          at_ends = all_at_ends u it.others it.corners;
          has_reason = subst (λ (pairs : Others Pair). IsTrue (has_ground model (operation_of u meant) pairs)) (sym (same_pairs it.others)) it.has_reason;
          used = usage.used;
          left = elim usage.left [
            | inl fits ↦ inl fits
            | inr other ↦ inr (other_corner (λ pair. pair.0) u other.corner other.is_corner other.differs)
          ];
          right = elim usage.right [
            | inl fits ↦ inl fits
            | inr other ↦ inr (other_corner (λ pair. pair.1) u other.corner other.is_corner other.differs)
          ];
          computable = computed;
          small = few;
        }
