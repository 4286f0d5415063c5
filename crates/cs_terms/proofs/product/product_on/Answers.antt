use Rattle.std.proofs.Common.{rules, ◌≡◌, pos, ◌*ℤ◌, refl, sym, ◌∙◌, to_z, of_z}
use Rattle.std.specs.Prelude.{IsNone}
use Rattle.std.specs.Int.{w128}
use Rattle.cs_types.specs.Wrap.{wrapped}
use Rattle.cs_terms.specs.Term.{value_at}
use Rattle.cs_terms.proofs.Cutting.{value_at-affine, affine-inside, none-slope, value_with-affine, IsInside-from_integer}
use Rattle.cs_terms.proofs.Narrow.{inside_same}
use Rattle.cs_terms.proofs.Products.{product-value}
use Rattle.cs_terms.proofs.product.product_on.Goals as goal

pub affine_value-value-requires : goal.affine_value-value-requires
affine_value-value-requires c =
    let term = c.args.term in
    let at = c.in_ok-at.at in
    let slope : to_z w128 (of_z w128 term.slope) ≡ term.slope = search rules in
    let place : to_z w128 (of_z w128 term.at) ≡ term.at = search rules in
    let value : to_z w128 (of_z w128 term.value) ≡ term.value = search rules in
    let integer = c.requires.values at c.in_ok-at.ensures.least.member in
    rw (slope, place, value, inside_same at c.in_ok-at.ensures.inside)
    (affine-inside term at c.requires.term (IsInside-from_integer (value_at term at) integer))

pub slope_on-slope-requires-clause-one_quotient : goal.slope_on-slope-requires-clause-one_quotient
slope_on-slope-requires-clause-one_quotient c =
    let factor : to_z w128 (of_z w128 c.args.factor) ≡ c.args.factor = search rules in
    rw factor c.requires.one_quotient

pub multiply-requires-clause-left : goal.multiply-requires-clause-left
multiply-requires-clause-left c =
    let term = c.args.term in
    let at = c.in_ok-at.at in
    let slope : to_z w128 (of_z w128 term.slope) ≡ term.slope = search rules in
    let place : to_z w128 (of_z w128 term.at) ≡ term.at = search rules in
    let value : to_z w128 (of_z w128 term.value) ≡ term.value = search rules in
    let integer = c.requires.values at c.in_ok-at.ensures.least.member in
    let given = (rw (slope, place, value, inside_same at c.in_ok-at.ensures.inside) at c.affine_value-value.ensures)
    ∙ sym (value_at-affine term at c.requires.term) in
    rw (given, inside_same (value_at term at) (IsInside-from_integer (value_at term at) integer)) integer

pub affine-product-requires : goal.affine-product-requires
affine-product-requires c = λ none.
    let flat = c.slope_on-slope.ensures.constant (none-slope c.args.term.sym c.args.term.slope c.requires.term none) in
    rw flat refl

pub returns : goal.returns
returns c =
    let term = c.args.term in
    let at = c.in_ok-at.at in
    let slope : to_z w128 (of_z w128 term.slope) ≡ term.slope = search rules in
    let place : to_z w128 (of_z w128 term.at) ≡ term.at = search rules in
    let value : to_z w128 (of_z w128 term.value) ≡ term.value = search rules in
    let member = c.in_ok-at.ensures.least.member in
    let integer = c.requires.values at member in
    let given = (rw (slope, place, value, inside_same at c.in_ok-at.ensures.inside) at c.affine_value-value.ensures)
    ∙ sym (value_at-affine term at c.requires.term) in
    let factor : to_z w128 (of_z w128 c.args.factor) ≡ c.args.factor = search rules in
    let number : c.multiply.result.number ≡ wrapped c.args.model c.args.ty (value_at term at *ℤ c.args.factor) =
    rw (given, inside_same (value_at term at) (IsInside-from_integer (value_at term at) integer), factor) at c.multiply.ensures.number in
    let number_same : to_z w128 (of_z w128 c.multiply.result.number) ≡ c.multiply.result.number = search rules in
    let flat : IsNone term.sym → c.slope_on-slope.result ≡ pos 0 = λ none.
    c.slope_on-slope.ensures.constant (none-slope term.sym term.slope c.requires.term none) in
    let slope_same : to_z w128 (of_z w128 c.slope_on-slope.result) ≡ c.slope_on-slope.result = search rules in
    let rises = rw factor at c.slope_on-slope.ensures.slope in
    let made = rw (slope_same, inside_same at c.in_ok-at.ensures.inside, number_same) at c.affine-product.ensures.value in (
      refl,
      record {
        inhabited = (at, member);
        value = λ x t.
            made (λ s. x)
            ∙ value_with-affine term.sym c.slope_on-slope.result at c.multiply.result.number x flat
            ∙ product-value c.args.model c.args.ty term c.args.factor c.slope_on-slope.result c.multiply.result.number at x c.requires.term number
            (c.requires.one_quotient x at t member) (rises x at t member);
        is_term = c.affine-product.ensures.term;
        symbol = c.affine-product.ensures.symbol;
      },
    )
