use Rattle.std.proofs.Common.{rules, ◌≡◌, sym, ◌∙◌, arith, to_z, of_z}
use Rattle.std.specs.Prelude.{◌≤ℤ◌}
use Rattle.std.specs.Int.{w128}
use Rattle.std.proofs.lemmas.Int.{ints}
use Rattle.cs_terms.specs.Term.{value_at}
use Rattle.cs_terms.proofs.Cutting.{value_at-affine, affine-inside}
use Rattle.cs_terms.proofs.Narrow.{inside_same}
use Rattle.cs_eval.proofs.Ends.{wide, rising_ends, falling_ends}
use Rattle.cs_eval.proofs.truths.values_over.Goals as goal

pub affine_value-first-requires : goal.affine_value-first-requires
affine_value-first-requires c =
    let term = c.args.term in
    let at = c.in-Some-Some.least in
    let slope : to_z w128 (of_z w128 term.slope) ≡ term.slope = search rules in
    let place : to_z w128 (of_z w128 term.at) ≡ term.at = search rules in
    let value : to_z w128 (of_z w128 term.value) ≡ term.value = search rules in
    rw (slope, place, value, inside_same at c.in-Some-Some.ensures.inside)
    (affine-inside term at c.requires.term (wide (value_at term at) (c.requires.values at c.in-Some-Some.ensures.least.member)))

pub affine_value-last-requires : goal.affine_value-last-requires
affine_value-last-requires c =
    let term = c.args.term in
    let at = c.in-Some-Some.greatest in
    let slope : to_z w128 (of_z w128 term.slope) ≡ term.slope = search rules in
    let place : to_z w128 (of_z w128 term.at) ≡ term.at = search rules in
    let value : to_z w128 (of_z w128 term.value) ≡ term.value = search rules in
    rw (slope, place, value, inside_same at c.in-Some-Some.ensures'.inside)
    (affine-inside term at c.requires.term (wide (value_at term at) (c.requires.values at c.in-Some-Some.ensures'.greatest.member)))

pub returns-then-first-last : goal.returns-then-first-last
returns-then-first-last c =
    let term = c.args.term in
    let ends = c.in-Some-Some in
    let first = c.affine_value-first.result in
    let last = c.affine_value-last.result in
    let slope : to_z w128 (of_z w128 term.slope) ≡ term.slope = search rules in
    let place : to_z w128 (of_z w128 term.at) ≡ term.at = search rules in
    let value : to_z w128 (of_z w128 term.value) ≡ term.value = search rules in
    let first_same : to_z w128 (of_z w128 first) ≡ first = search rules in
    let last_same : to_z w128 (of_z w128 last) ≡ last = search rules in
    let at_first : first ≡ value_at term ends.least =
    (rw (slope, place, value, inside_same ends.least ends.ensures.inside) at c.affine_value-first.ensures)
    ∙ sym (value_at-affine term ends.least c.requires.term) in
    let at_last : last ≡ value_at term ends.greatest =
    (rw (slope, place, value, inside_same ends.greatest ends.ensures'.inside) at c.affine_value-last.ensures)
    ∙ sym (value_at-affine term ends.greatest c.requires.term) in
    let test = c.if-first-last.true in
    let order : first ≤ℤ last = omega (arith, ints, test, first_same, last_same) in
    rw (first_same, last_same)
    (rising_ends term c.args.range.now ends.least ends.greatest first last c.requires.term ends.ensures.least ends.ensures'.greatest at_first at_last
    order)

pub returns : goal.returns
returns c =
    let term = c.args.term in
    let ends = c.in-Some-Some in
    let first = c.affine_value-first.result in
    let last = c.affine_value-last.result in
    let slope : to_z w128 (of_z w128 term.slope) ≡ term.slope = search rules in
    let place : to_z w128 (of_z w128 term.at) ≡ term.at = search rules in
    let value : to_z w128 (of_z w128 term.value) ≡ term.value = search rules in
    let first_same : to_z w128 (of_z w128 first) ≡ first = search rules in
    let last_same : to_z w128 (of_z w128 last) ≡ last = search rules in
    let at_first : first ≡ value_at term ends.least =
    (rw (slope, place, value, inside_same ends.least ends.ensures.inside) at c.affine_value-first.ensures)
    ∙ sym (value_at-affine term ends.least c.requires.term) in
    let at_last : last ≡ value_at term ends.greatest =
    (rw (slope, place, value, inside_same ends.greatest ends.ensures'.inside) at c.affine_value-last.ensures)
    ∙ sym (value_at-affine term ends.greatest c.requires.term) in
    let test = c.if-first-last.false in
    let order : last ≤ℤ first = omega (arith, ints, test, first_same, last_same) in
    rw (first_same, last_same)
    (falling_ends term c.args.range.now ends.least ends.greatest first last c.requires.term ends.ensures.least ends.ensures'.greatest at_first at_last
    order)
