use Rattle.std.proofs.Common.{rules, ◌≡◌, sym, ap, ◌∙◌, to_z, of_z}
use Rattle.std.specs.Int.{w128}
use Rattle.cs_terms.specs.Term.{value_at}
use Rattle.cs_terms.proofs.Cutting.{value_at-affine, affine-inside}
use Rattle.cs_terms.proofs.Narrow.{inside_same}
use Rattle.cs_constraints.proofs.Assuming.{value_of-symbol}
use Rattle.cs_constraints.proofs.constraints.Constraints.collapse.Goals as goal

pub affine_value-requires : goal.affine_value-requires
affine_value-requires c =
    let term = c.args.term in
    let slope : to_z w128 (of_z w128 term.slope) ≡ term.slope = search rules in
    let at : to_z w128 (of_z w128 term.at) ≡ term.at = search rules in
    let value : to_z w128 (of_z w128 term.value) ≡ term.value = search rules in
    let one = c.in-Some.ensures in
    let number : to_z w128 (of_z w128 c.in-Some.number) ≡ c.in-Some.number = search rules in
    let inside = c.requires.values one.sym one.set one.symbol_is one.set_is c.in-Some.number one.only.member in
    rw (slope, at, value, number) (affine-inside term c.in-Some.number c.requires.term inside)

pub returns-in-Some-clause-value : goal.returns-in-Some-clause-value
returns-in-Some-clause-value c =
    let term = c.args.term in
    let slope : to_z w128 (of_z w128 term.slope) ≡ term.slope = search rules in
    let at : to_z w128 (of_z w128 term.at) ≡ term.at = search rules in
    let value : to_z w128 (of_z w128 term.value) ≡ term.value = search rules in
    let one = c.in-Some.ensures in
    let number : to_z w128 (of_z w128 c.in-Some.number) ≡ c.in-Some.number = search rules in
    let inside = c.requires.values one.sym one.set one.symbol_is one.set_is c.in-Some.number one.only.member in
    let made = (rw (slope, at, value, number) at c.affine_value.ensures) ∙ sym (value_at-affine term c.in-Some.number c.requires.term) in
    λ v fits.
    let own = one.only.alone (v one.sym.0) (fits one.sym.0 one.set one.set_is) in
    rw made (inside_same (value_at term c.in-Some.number) inside) ∙ sym (value_of-symbol v term one.sym one.symbol_is ∙ ap (value_at term) own)
