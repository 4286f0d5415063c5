use Rattle.std.proofs.Common.{◌≡◌, ◌&&◌, Bool, true, false, ℤ, neg_ℤ, ◌≤ℤ◌, List, refl, sym, ap, ◌∙◌, arith, FitsSigned}
use Rattle.std.specs.Int.{w128}
use Rattle.std.proofs.lemmas.Bool.{and_left, false≢true}
use Rattle.std.proofs.lemmas.Int.{ints, to_z-of_z}
use Rattle.std.proofs.lemmas.Result.{IfOk-weaker}
use Rattle.cs_ranges.specs.declared.range_set.Interval.{Interval}
use Rattle.cs_ranges.specs.declared.range_set.affine.Line.{Line}
use Rattle.cs_ranges.specs.Affine.{affine}
use Rattle.cs_ranges.specs.Line.{is_over}
use Rattle.cs_ranges.specs.RangeSet.{contains, IsLeast, IsGreatest}
use Rattle.cs_ranges.proofs.Drawing.{is_over-within}
use Rattle.cs_ranges.proofs.Members.{contains-nil}
use Rattle.cs_ranges.proofs.range_set.affine.affine_preimage.Goals.{in_default-via-in-Some+in_default, in_default-via-in_default}
use Rattle.cs_ranges.proofs.range_set.affine.affine_preimage.Goals.{then-slope-lt0+in_ok-found, else-slope-lt0+in_ok-found-2}
use Rattle.cs_ranges.proofs.range_set.affine.affine_preimage.Goals as goal

-- the preimage under the line, cut down to the requested numbers, over each of which the line is
cut : (found over asked value : Bool) → found ≡ (over && value) → (asked ≡ true → over ≡ true) → (found && asked) ≡ (asked && value)
cut true true true value e h = e
cut false true true value e h = e
cut true over false value e h = refl
cut false over false value e h = refl
cut found false true value e h = absurd (false≢true (h refl))

-- the line is over each requested number
is_over-asked : (line : Line) (asked : List Interval) (first last s : ℤ) → (line.first ≡ first) × (line.last ≡ last) → IsLeast asked first
    → IsGreatest asked last → contains asked s ≡ true → is_over line s ≡ true
is_over-asked line asked first last s e least greatest t =
    let from : line.first ≤ℤ s = omega (arith, ints, least.least s t) in
    let upto : s ≤ℤ line.last = omega (arith, ints, greatest.greatest s t) in
    is_over-within line s from upto

neg_ℤ-neg_ℤ : (x : ℤ) → neg_ℤ (neg_ℤ x) ≡ x
neg_ℤ-neg_ℤ x = omega (arith, ints)

pub returns-in_default : goal.returns-in_default
returns-in_default c =
    λ s.
    let none : contains c.args.within.now s ≡ false = elim c.in_default.branch [
      | in_default-via-in-Some+in_default w ↦ w.in_default.ensures'.greatest s
      | in_default-via-in_default w ↦ (rw w.in_default.is-0 at c.least.ensures.least) s
    ] in
    ap (λ l. contains l s) c.empty.ensures ∙ contains-nil s ∙ sym (and_left _ _ none)

pub returns : goal.returns
returns c =
    let within = c.args.within.now in
    let value : ℤ → ℤ = affine c.args.slope c.args.at c.args.value in
    let set = c.args.set.now in
    let line = c.rising-line.result in
    let first : FitsSigned w128 c.in-Some-Some.first = omega (arith, ints, c.in-Some-Some.ensures.inside) in
    let last : FitsSigned w128 c.in-Some-Some.last = omega (arith, ints, c.in-Some-Some.ensures'.inside) in
    let ends = rw (to_z-of_z w128 _ first, to_z-of_z w128 _ last) at c.rising-line.ensures.ends in
    let rises = rw (to_z-of_z w128 _ c.ranges.slope, to_z-of_z w128 _ c.ranges.at, to_z-of_z w128 _ c.ranges.value) at c.rising-line.ensures.values in
    let falls = rw (to_z-of_z w128 _ c.ranges.slope, to_z-of_z w128 _ c.ranges.at, to_z-of_z w128 _ c.ranges.value) at c.rising-line.ensures.negatives in
    let over : (s : ℤ) → contains within s ≡ true → is_over line s ≡ true = λ s.
    is_over-asked line within _ _ s ends c.in-Some-Some.ensures.least c.in-Some-Some.ensures'.greatest in
    let answered : (s : ℤ) → contains c.if-slope-lt0.found s ≡ (is_over line s && contains set (value s)) = λ s. elim c.if-slope-lt0.branch [
      | then-slope-lt0+in_ok-found w ↦
          rw w.found-is (w.in_ok-found.ensures s
          ∙ ap (λ x. is_over line s && contains set (neg_ℤ x)) (falls (omega (arith, ints)) s)
          ∙ ap (λ x. is_over line s && contains set x) (neg_ℤ-neg_ℤ (value s)))
      | else-slope-lt0+in_ok-found-2 w ↦
          rw w.found-is (w.in_ok-found-2.ensures s ∙ ap (λ x. is_over line s && contains set x) (rises (omega (arith, ints)) s))
    ] in
    let HasCommon : List Interval → Type 0 = λ p. (s : ℤ) → contains p s ≡ (contains c.if-slope-lt0.found s && contains within s) in
    let HasAsked : List Interval → Type 0 = λ p. (s : ℤ) → contains p s ≡ (contains within s && contains c.args.set.now (value s)) in
    IfOk-weaker _ HasCommon HasAsked
    (λ p h s. h s ∙ cut _ _ _ _ (answered s) (over s))
    c.intersect.ensures
