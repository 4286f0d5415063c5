use Rattle.std.proofs.Common.{rules, ◌≡◌, ◌&&◌, ℤ, List, ap, sym, ◌∙◌, arith, to_z, of_z, FitsSigned}
use Rattle.std.specs.Int.{w128}
use Rattle.std.proofs.lemmas.Int.{ints, to_z-of_z}
use Rattle.std.proofs.lemmas.Result.{IfOk-weaker}
use Rattle.cs_ranges.specs.declared.range_set.Interval.{Interval}
use Rattle.cs_ranges.specs.Affine.{affine}
use Rattle.cs_ranges.specs.Interval.{in_interval}
use Rattle.cs_ranges.specs.RangeSet.{contains}
use Rattle.cs_terms.specs.Near.{IsAtValues}
use Rattle.cs_terms.proofs.Cutting.{value_at-affine, affine-inside}
use Rattle.cs_terms.proofs.pieces.at_values.Goals as goal

pub affine_preimage-requires : goal.affine_preimage-requires
affine_preimage-requires c =
    let term = c.args.term in
    let slope : to_z w128 (of_z w128 term.slope) ≡ term.slope = search rules in
    let at : to_z w128 (of_z w128 term.at) ≡ term.at = search rules in
    let value : to_z w128 (of_z w128 term.value) ≡ term.value = search rules in
    rw (slope, at, value) (record { values_inside = λ s h. affine-inside term s c.requires.term (c.requires.values s h) })

pub returns : goal.returns
unfolding in_interval
returns c =
    let term = c.args.term in
    let range = c.args.range.now in
    let values = c.in_ok-values.values in
    let slope : to_z w128 (of_z w128 term.slope) ≡ term.slope = search rules in
    let at : to_z w128 (of_z w128 term.at) ≡ term.at = search rules in
    let value : to_z w128 (of_z w128 term.value) ≡ term.value = search rules in
    let low : FitsSigned w128 c.args.values.low = omega (arith, ints, c.requires.ends.0) in
    let high : FitsSigned w128 c.args.values.high = omega (arith, ints, c.requires.ends.1) in
    let given : (x : ℤ) → contains values x ≡ in_interval c.args.values x = λ x.
    rw (to_z-of_z w128 _ low, to_z-of_z w128 _ high) at (c.in_ok-values.ensures.numbers x) in
    let made = rw (slope, at, value) at c.affine_preimage.ensures in
    let IsPreimage : List Interval → Type 0 = λ p.
    (s : ℤ) → contains p s ≡ (contains range s && contains values (affine term.slope term.at term.value s)) in
    IfOk-weaker _ IsPreimage (IsAtValues term range c.args.values)
    (λ p h x.
    h x ∙ ap (λ b. contains range x && b) (given (affine term.slope term.at term.value x)
    ∙ ap (in_interval c.args.values) (sym (value_at-affine term x c.requires.term))))
    made
