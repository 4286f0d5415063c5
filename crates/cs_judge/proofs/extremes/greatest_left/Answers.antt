use Rattle.std.specs.Prelude.{◌≤◌, ◌^◌, unsigned_abs, FitsSigned}
use Rattle.std.specs.Int.{w128}
use Rattle.std.proofs.Common.{arith, subst}
use Rattle.std.proofs.lemmas.Int.{to_z-of_z}
use Rattle.cs_results.specs.declared.run.Others.TheVariants.{Two}
use Rattle.cs_compared.specs.Wide.{AreSmall}
use Rattle.cs_compared.proofs.Products.{fits}
use Rattle.cs_judge.proofs.extremes.greatest_left.Goals as goal

pub returns-in-Two-clause-small : goal.returns-in-Two-clause-small
returns-in-Two-clause-small c =
    let small : AreSmall (Two c.in-Two.first c.in-Two.second) = subst AreSmall c.in-Two.is c.requires.others in
    let mine : unsigned_abs c.args.mine.0 ≤ 2 ^ 66 = c.requires.mine.left in
    let first : unsigned_abs c.in-Two.first.0 ≤ 2 ^ 66 = small.0.left in
    let second : unsigned_abs c.in-Two.second.0 ≤ 2 ^ 66 = small.1.left in
    let a : FitsSigned w128 c.args.mine.0 = fits c.args.mine.0 (omega (arith, mine)) in
    let b : FitsSigned w128 c.in-Two.first.0 = fits c.in-Two.first.0 (omega (arith, first)) in
    let d : FitsSigned w128 c.in-Two.second.0 = fits c.in-Two.second.0 (omega (arith, second)) in
    let inner : unsigned_abs c.greater-in-Two.result ≤ 2 ^ 66 =
    c.greater-in-Two.ensures.bounded (2 ^ 66) (simp to_z-of_z first) (simp to_z-of_z second) in
    let e : FitsSigned w128 c.greater-in-Two.result = fits c.greater-in-Two.result (omega (arith, inner)) in
    let outer : unsigned_abs c.greater-in-Two-2.result ≤ 2 ^ 66 =
    c.greater-in-Two-2.ensures.bounded (2 ^ 66) (simp to_z-of_z mine) (simp to_z-of_z inner) in
    let f : FitsSigned w128 c.greater-in-Two-2.result = fits c.greater-in-Two-2.result (omega (arith, outer)) in
    simp to_z-of_z outer
