use Rattle.std.proofs.Common.{rules, ◌≡◌, sym, ◌∙◌, subst, to_z, of_z}
use Rattle.std.specs.Prelude.{OnOk}
use Rattle.std.specs.Int.{w128}
use Rattle.std.proofs.lemmas.Int.{to_z-of_z}
use Rattle.cs_ranges.specs.Interval.{IsInside}
use Rattle.cs_terms.proofs.Cutting.{value_at-affine, affine-inside}
use Rattle.cs_terms.proofs.Narrow.{inside_same}
use Rattle.cs_access.specs.Offsets.{IsTried}
use Rattle.cs_access.proofs.reaching.push_at.Goals as goal

pub affine_value-there-requires : goal.affine_value-there-requires
affine_value-there-requires c =
    let term = c.args.offset in
    let slope : to_z w128 (of_z w128 term.slope) ≡ term.slope = search rules in
    let at : to_z w128 (of_z w128 term.at) ≡ term.at = search rules in
    let value : to_z w128 (of_z w128 term.value) ≡ term.value = search rules in
    rw (slope, at, value, to_z-of_z w128 c.args.number c.ranges.number)
    (affine-inside term c.args.number c.requires.known.is_term c.requires.inside)

pub push_step-requires-clause-inside : goal.push_step-requires-clause-inside
push_step-requires-clause-inside c =
    let term = c.args.offset in
    let slope : to_z w128 (of_z w128 term.slope) ≡ term.slope = search rules in
    let at : to_z w128 (of_z w128 term.at) ≡ term.at = search rules in
    let value : to_z w128 (of_z w128 term.value) ≡ term.value = search rules in
    let made = (rw (slope, at, value, to_z-of_z w128 c.args.number c.ranges.number) at c.affine_value-there.ensures)
    ∙ sym (value_at-affine term c.args.number c.requires.known.is_term) in
    let inside = subst IsInside (sym made) c.requires.inside in
    subst IsInside (sym (inside_same c.affine_value-there.result inside)) inside

pub returns : goal.returns
returns c =
    let term = c.args.offset in
    let slope : to_z w128 (of_z w128 term.slope) ≡ term.slope = search rules in
    let at : to_z w128 (of_z w128 term.at) ≡ term.at = search rules in
    let value : to_z w128 (of_z w128 term.value) ≡ term.value = search rules in
    let made = (rw (slope, at, value, to_z-of_z w128 c.args.number c.ranges.number) at c.affine_value-there.ensures)
    ∙ sym (value_at-affine term c.args.number c.requires.known.is_term) in
    let inside = subst IsInside (sym made) c.requires.inside in
    subst (λ n. OnOk c.push_step.result (IsTried c.args.state.now term n c.args.steps.now.items c.push_step.new.steps.items))
    (inside_same c.affine_value-there.result inside ∙ made) c.push_step.ensures
