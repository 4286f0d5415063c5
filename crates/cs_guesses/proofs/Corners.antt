-- Corners of a noted guess have noted ends, so valuations with these are the ground to guess: for `IsAskedAlong` and for real guesses.
use Rattle.std.proofs.Common.{◌⊎◌, inl, inr, Option, sym, subst}
use Rattle.cs_types.specs.declared.data_model.DataModel.{DataModel}
use Rattle.cs_ranges.specs.declared.range_set.Interval.{Interval}
use Rattle.cs_terms.specs.declared.symbol.Sym.{Sym}
use Rattle.cs_terms.specs.declared.term.Lin.{Lin}
use Rattle.cs_terms.specs.Term.{Valuation}
use Rattle.cs_constraints.specs.Constraints.{Sets}
use Rattle.cs_state.specs.declared.asked.Asked.{Asked}
use Rattle.cs_state.specs.declared.asked.Asks.{Asks}
use Rattle.cs_state.specs.declared.asked.Asks.TheVariants as asks
use Rattle.cs_results.specs.declared.run.Others.{Others}
use Rattle.cs_results.specs.declared.run.Others.TheVariants.{One, Two}
use Rattle.cs_eval.specs.declared.question.Question.{Question}
use Rattle.cs_eval.specs.Followed.{Mentions, IsFollowed, IsGuess}
use Rattle.cs_eval.specs.Noted.{IsQuestionOf, IsRangeOf}
use Rattle.cs_corners.specs.Corners.{IsCorner, EachIs}
use Rattle.cs_corners.specs.Operands.{HasOperands, HasDivisor}
use Rattle.cs_corners.proofs.Ends.{which_end}
use Rattle.cs_corners.proofs.Moving.{is_over}
use Rattle.cs_corners.proofs.Narrower.{usable}
use Rattle.cs_corners.proofs.Questions.{corners_have}
use Rattle.cs_corners.proofs.Rectangles.{AreOf, which_of}
use Rattle.cs_guesses.specs.Asking.{HasOwnOrEnd, IsMoved, HasGround, IsUsable}
use Rattle.cs_guesses.specs.Inexact.{AreRanges}

-- a question mentions only symbols of these operands, and whether it mentions one is decidable
abbrev pub IsOver : Lin → Lin → Question → Type 0
IsOver left right meant = ((s : Sym) → Mentions meant s ⊎ (¬ Mentions meant s)) × ((s : Sym) → Mentions meant s → AreOf left right s)

pub is_over_both : (kind : Asks) (left right : Lin) (meant : Question) → IsQuestionOf kind left right meant → IsOver left right meant
is_over_both (asks.Binary op ty) left right meant is = subst (IsOver left right) (sym is) (which_of left right, λ s mentions. mentions)
is_over_both (asks.Convert ty) left right meant is = subst (IsOver left right) (sym is) (is_over left.sym, λ s mentions. inl mentions)
is_over_both (asks.Compare op) left right meant is = subst (IsOver left right) (sym is) (which_of left right, λ s mentions. mentions)
is_over_both asks.Order left right meant is = subst (IsOver left right) (sym is) (which_of left right, λ s mentions. mentions)
is_over_both asks.Product left right meant is = subst (IsOver left right) (sym is) (which_of left right, λ s mentions. mentions)
is_over_both asks.Sum left right meant is = subst (IsOver left right) (sym is.1) (which_of left right, λ s mentions. mentions)
is_over_both asks.Difference left right meant is = subst (IsOver left right) (sym is.1) (which_of left right, λ s mentions. mentions)

module _ (model : DataModel) (asked : Asked) (meant : Question) (asks_it : IsQuestionOf asked.asks asked.left asked.right meant) (sets : Sets)
    (ranges : AreRanges asked sets) (v : Valuation) (operands : HasOperands sets v meant) where
  over : IsOver asked.left asked.right meant
  over = is_over_both asked.asks asked.left asked.right meant asks_it

  -- a corner has own numbers or noted ends
  corner_moved : (w : Valuation) → IsCorner sets meant v w → IsMoved asked v w
  corner_moved w corner = record {
    left = own_or_end asked.left.sym asked.ends.left ranges.left;
    right = own_or_end asked.right.sym asked.ends.right ranges.right;
    others = λ other l r. corner.others other (λ mentions. elim (over.1 other mentions) [ inl a ↦ l a | inr b ↦ r b ]);
  }
    where
      own_or_end : (symbol : Option Sym) (ends : Interval) → IsRangeOf sets symbol ends → HasOwnOrEnd symbol ends v w
      own_or_end symbol ends range s is =
          let known = range s is in
          elim (over.0 s) [
            | inl mentions ↦ inr (which_end sets s known.0 ends.low ends.high (w s.0) known.1 known.2 known.3 (corner.ends s mentions))
            | inr not ↦ inl (corner.others s not)
          ]

  pub has_ground_moved : ¬ IsFollowed model sets meant v → HasGround model asked meant v
  has_ground_moved inexact =
      let it = corners_have model sets meant v ranges.inhabited operands inexact in
      record { others = it.others; moved = each it.others it.corners; has_reason = it.has_reason }
    where
      each : (others : Others Valuation) → EachIs (IsCorner sets meant v) others → EachIs (IsMoved asked v) others
      each (One w) corner = corner_moved w corner
      each (Two w x) corners = (corner_moved w corners.0, corner_moved x corners.1)

  pub usable_moved : HasDivisor sets v meant → IsGuess model sets meant v (v asked.guess.0) → IsUsable model asked meant v
  usable_moved divisor may =
      let it = usable model sets meant v (v asked.guess.0) ranges.inhabited operands divisor may in
      record {
        used = it.used;
        left = elim it.left [
          | inl fits ↦ inl fits
          | inr other ↦ inr (other.corner, corner_moved other.corner other.is_corner, other.differs)
        ];
        right = elim it.right [
          | inl fits ↦ inl fits
          | inr other ↦ inr (other.corner, corner_moved other.corner other.is_corner, other.differs)
        ];
      }
