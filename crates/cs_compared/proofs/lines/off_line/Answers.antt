use Rattle.std.specs.Prelude.{FitsSigned, ◌-ℤ◌, ◌*ℤ◌, not}
use Rattle.std.specs.Int.{w128}
use Rattle.std.specs.Ordering.{int_eq}
use Rattle.std.proofs.Common.{arith, ap, ◌≡◌}
use Rattle.std.proofs.lemmas.Int.{to_z-of_z}
use Rattle.cs_compared.proofs.Products.{fits, difference-small}
use Rattle.cs_compared.proofs.lines.off_line.Goals as goal

pub returns : goal.returns
returns c =
    let m = c.requires.mine in
    let f = c.requires.first in
    let s = c.requires.second in
    let a : FitsSigned w128 c.args.mine.0 = fits c.args.mine.0 (omega (arith, m.left)) in
    let b : FitsSigned w128 c.args.mine.1 = fits c.args.mine.1 (omega (arith, m.right)) in
    let d : FitsSigned w128 c.args.first.0 = fits c.args.first.0 (omega (arith, f.left)) in
    let e : FitsSigned w128 c.args.first.1 = fits c.args.first.1 (omega (arith, f.right)) in
    let g : FitsSigned w128 c.args.second.0 = fits c.args.second.0 (omega (arith, s.left)) in
    let h : FitsSigned w128 c.args.second.1 = fits c.args.second.1 (omega (arith, s.right)) in
    let i : FitsSigned w128 (c.args.first.0 -ℤ c.args.mine.0) = fits _ (omega (arith, difference-small _ c.args.first.0 c.args.mine.0 f.left m.left)) in
    let j : FitsSigned w128 (c.args.second.1 -ℤ c.args.mine.1) = fits _ (omega (arith, difference-small _ c.args.second.1 c.args.mine.1 s.right m.right)) in
    let k : FitsSigned w128 (c.args.second.0 -ℤ c.args.mine.0) = fits _ (omega (arith, difference-small _ c.args.second.0 c.args.mine.0 s.left m.left)) in
    let l : FitsSigned w128 (c.args.first.1 -ℤ c.args.mine.1) = fits _ (omega (arith, difference-small _ c.args.first.1 c.args.mine.1 f.right m.right)) in
    let same : c.same_products-same.result
    ≡ int_eq ((c.args.first.0 -ℤ c.args.mine.0) *ℤ (c.args.second.1 -ℤ c.args.mine.1))
    ((c.args.second.0 -ℤ c.args.mine.0) *ℤ (c.args.first.1 -ℤ c.args.mine.1)) =
    simp to_z-of_z at c.same_products-same.ensures in
    ap not same
