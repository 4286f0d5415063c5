use Rattle.std.proofs.Common.{rules, ◌≡◌, ◌*ℤ◌, refl, sym, ◌∙◌, inl, inr, to_z, of_z, FitsSigned}
use Rattle.std.specs.Int.{w128}
use Rattle.std.proofs.lemmas.Bool.{false≢true}
use Rattle.std.proofs.lemmas.Int.{to_z-of_z}
use Rattle.cs_terms.proofs.Products.{product_slope-fits, no-rise}
use Rattle.cs_terms.proofs.product.slope_on.Goals as goal

fits : (c : goal.After-struct_told-1) → FitsSigned w128 (c.args.term.slope *ℤ c.args.factor)
fits c = elim c.in-None.ensures [
  | inl empty ↦ absurd (false≢true (sym (empty c.requires.inhabited.0) ∙ c.requires.inhabited.1))
  | inr two ↦ product_slope-fits c.args.model c.args.ty c.args.term c.args.factor c.args.range.now c.requires.term c.requires.one_quotient two
]

pub overflow_mul-result : goal.overflow_mul-result
overflow_mul-result c =
    let slope : to_z w128 (of_z w128 c.args.term.slope) ≡ c.args.term.slope = search rules in
    let factor : to_z w128 (of_z w128 c.args.factor) ≡ c.args.factor = search rules in
    rw (slope, factor) (fits c)

pub returns-in-Some-clause-slope : goal.returns-in-Some-clause-slope
returns-in-Some-clause-slope c = λ x y. no-rise c.args.range.now _ x y (c.args.term.slope *ℤ c.args.factor) c.in-Some.ensures

pub returns-in-None-clause-slope : goal.returns-in-None-clause-slope
returns-in-None-clause-slope c =
    let slope : to_z w128 (of_z w128 c.args.term.slope) ≡ c.args.term.slope = search rules in
    let factor : to_z w128 (of_z w128 c.args.factor) ≡ c.args.factor = search rules in
    λ x y h k. rw (slope, factor, to_z-of_z w128 _ (fits c)) refl
