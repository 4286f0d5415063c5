use Rattle.std.proofs.Common.{◌≡◌, ℤ, to_z, of_z, ap, ◌∙◌, rules}
use Rattle.std.proofs.lemmas.Int.{to_z-of_z}
use Rattle.std.specs.Int.{w128}
use Rattle.cs_ranges.specs.Affine.{affine}
use Rattle.cs_ranges.proofs.AffineLaws.{affine-affine}
use Rattle.cs_progress.proofs.terms.seen_from.Goals as goal

pub returns-clause-values : goal.returns-clause-values
returns-clause-values c = λ number.
    let term = c.args.term in
    let slope : to_z w128 (of_z w128 term.slope) ≡ term.slope = search rules in
    let at = to_z-of_z w128 c.args.at c.ranges.at in
    let value = to_z-of_z w128 c.args.value c.ranges.value in
    rw (slope, at, value) (
    ap (λ (n : ℤ). affine term.slope c.args.at n number) c.requires ∙ affine-affine term.slope term.at term.value c.args.at number
    )
