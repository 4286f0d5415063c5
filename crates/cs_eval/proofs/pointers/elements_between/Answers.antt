use Rattle.std.proofs.Common.{rules, ◌≡◌, inl, pos, ap, to_z, of_z}
use Rattle.std.specs.Int.{w128}
use Rattle.cs_terms.specs.Term.{value_of}
use Rattle.cs_eval.proofs.Differences.{elements_of, no_elements}
use Rattle.cs_eval.proofs.pointers.elements_between.Goals as goal

pub returns-then-size-eq0 : goal.returns-then-size-eq0
returns-then-size-eq0 c =
    no_elements c.args.left c.args.right c.constant.result c.args.size c.if-size-eq0.true (λ v. ap (value_of v) c.constant.ensures)

pub returns-in-Some : goal.returns-in-Some
returns-in-Some c =
    let size : to_z w128 (of_z w128 c.from.result) ≡ pos c.args.size = search rules in
    elements_of c.args.left c.args.right c.in-Some.bytes c.args.size c.in_ok-between.between c.divided-elements.result c.if-size-eq0.false
    c.in_ok-between.ensures c.in-Some.is (rw size at c.divided-elements.ensures)

pub returns-in-None : goal.returns-in-None
returns-in-None c = (c.if-size-eq0.false, inl (c.in_ok-between.ensures.none c.in-None.is))
