use Rattle.std.proofs.Common.{rules, ◌≡◌, to_z, of_z}
use Rattle.std.specs.Int.{w128}
use Rattle.cs_terms.specs.Pieces.{product_quotient_of}
use Rattle.cs_terms.specs.Term.{value_at}
use Rattle.cs_terms.proofs.Cutting.{IsInside-from_integer, one_quotient, product_pieces_from_cut as pieces_of}
use Rattle.cs_terms.proofs.Products.{product_piece}
use Rattle.cs_terms.proofs.product.product_pieces.Goals as goal

pub cut-requires-clause-values : goal.cut-requires-clause-values
cut-requires-clause-values c = λ x t. IsInside-from_integer (value_at c.args.term x) (c.requires.values x t)

pub product_on-requires-clause-values : goal.product_on-requires-clause-values
product_on-requires-clause-values c =
    let factor : to_z w128 (of_z w128 c.args.factor) ≡ c.args.factor = search rules in
    let pieces = pieces_of c.args.model c.args.ty c.of_type.result c.cofactors-near.result c.args.term c.args.factor c.args.range.now c.in_ok-under.field-0
    c.of_type.ensures.quotients (rw factor at c.cofactors-near.ensures.under) (rw factor at c.cofactors-near.ensures.same)
    (rw factor at c.cofactors-near.ensures.past) c.requires.values c.in_ok-under.ensures in
    λ x t. c.requires.values x ((pieces.under x).0 t).0

pub product_on-requires-clause-one_quotient : goal.product_on-requires-clause-one_quotient
product_on-requires-clause-one_quotient c =
    let factor : to_z w128 (of_z w128 c.args.factor) ≡ c.args.factor = search rules in
    let pieces = pieces_of c.args.model c.args.ty c.of_type.result c.cofactors-near.result c.args.term c.args.factor c.args.range.now c.in_ok-under.field-0
    c.of_type.ensures.quotients (rw factor at c.cofactors-near.ensures.under) (rw factor at c.cofactors-near.ensures.same)
    (rw factor at c.cofactors-near.ensures.past) c.requires.values c.in_ok-under.ensures in
    rw factor (one_quotient (product_quotient_of c.args.model c.args.ty c.args.term c.args.factor) c.args.range.now c.in_ok-under.field-0.under _ pieces.under)

pub product_on-requires-2-clause-values : goal.product_on-requires-2-clause-values
product_on-requires-2-clause-values c =
    let factor : to_z w128 (of_z w128 c.args.factor) ≡ c.args.factor = search rules in
    let pieces = pieces_of c.args.model c.args.ty c.of_type.result c.cofactors-near.result c.args.term c.args.factor c.args.range.now c.in_ok-under.field-0
    c.of_type.ensures.quotients (rw factor at c.cofactors-near.ensures.under) (rw factor at c.cofactors-near.ensures.same)
    (rw factor at c.cofactors-near.ensures.past) c.requires.values c.in_ok-under.ensures in
    λ x t. c.requires.values x ((pieces.same x).0 t).0

pub product_on-requires-2-clause-one_quotient : goal.product_on-requires-2-clause-one_quotient
product_on-requires-2-clause-one_quotient c =
    let factor : to_z w128 (of_z w128 c.args.factor) ≡ c.args.factor = search rules in
    let pieces = pieces_of c.args.model c.args.ty c.of_type.result c.cofactors-near.result c.args.term c.args.factor c.args.range.now c.in_ok-under.field-0
    c.of_type.ensures.quotients (rw factor at c.cofactors-near.ensures.under) (rw factor at c.cofactors-near.ensures.same)
    (rw factor at c.cofactors-near.ensures.past) c.requires.values c.in_ok-under.ensures in
    rw factor (one_quotient (product_quotient_of c.args.model c.args.ty c.args.term c.args.factor) c.args.range.now c.in_ok-under.field-0.same _ pieces.same)

pub product_on-requires-3-clause-values : goal.product_on-requires-3-clause-values
product_on-requires-3-clause-values c =
    let factor : to_z w128 (of_z w128 c.args.factor) ≡ c.args.factor = search rules in
    let pieces = pieces_of c.args.model c.args.ty c.of_type.result c.cofactors-near.result c.args.term c.args.factor c.args.range.now c.in_ok-under.field-0
    c.of_type.ensures.quotients (rw factor at c.cofactors-near.ensures.under) (rw factor at c.cofactors-near.ensures.same)
    (rw factor at c.cofactors-near.ensures.past) c.requires.values c.in_ok-under.ensures in
    λ x t. c.requires.values x ((pieces.past x).0 t).0

pub product_on-requires-3-clause-one_quotient : goal.product_on-requires-3-clause-one_quotient
product_on-requires-3-clause-one_quotient c =
    let factor : to_z w128 (of_z w128 c.args.factor) ≡ c.args.factor = search rules in
    let pieces = pieces_of c.args.model c.args.ty c.of_type.result c.cofactors-near.result c.args.term c.args.factor c.args.range.now c.in_ok-under.field-0
    c.of_type.ensures.quotients (rw factor at c.cofactors-near.ensures.under) (rw factor at c.cofactors-near.ensures.same)
    (rw factor at c.cofactors-near.ensures.past) c.requires.values c.in_ok-under.ensures in
    rw factor (one_quotient (product_quotient_of c.args.model c.args.ty c.args.term c.args.factor) c.args.range.now c.in_ok-under.field-0.past _ pieces.past)

pub returns : goal.returns
returns c =
    let model = c.args.model in
    let ty = c.args.ty in
    let term = c.args.term in
    let range = c.args.range.now in
    let factor : to_z w128 (of_z w128 c.args.factor) ≡ c.args.factor = search rules in
    let pieces = pieces_of c.args.model c.args.ty c.of_type.result c.cofactors-near.result c.args.term c.args.factor c.args.range.now c.in_ok-under.field-0
    c.of_type.ensures.quotients (rw factor at c.cofactors-near.ensures.under) (rw factor at c.cofactors-near.ensures.same)
    (rw factor at c.cofactors-near.ensures.past) c.requires.values c.in_ok-under.ensures in
    record {
      under = product_piece model ty term c.args.factor _ range _ _ pieces.under (rw factor at c.product_on.ensures);
      same = product_piece model ty term c.args.factor _ range _ _ pieces.same (rw factor at c.product_on-2.ensures);
      past = product_piece model ty term c.args.factor _ range _ _ pieces.past (rw factor at c.product_on-3.ensures);
      far = pieces.far;
    }
