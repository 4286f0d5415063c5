use Rattle.std.proofs.Common.{rules, ◌≡◌, ◌+ℤ◌, inl, to_z, of_z}
use Rattle.std.specs.Int.{w128}
use Rattle.cs_terms.proofs.Values.{value_with-add, value_with-add_left}
use Rattle.cs_terms.proofs.arithmetic.add.Goals as goal

pub returns-then-eq-clause-symbol : goal.returns-then-eq-clause-symbol
returns-then-eq-clause-symbol c = λ s e. inl (c.add_over_one.ensures.symbol s e)

pub returns-in-Some-None-clause-value : goal.returns-in-Some-None-clause-value
returns-in-Some-None-clause-value c =
    let l = c.args.left in
    let r = c.args.right in
    let slope : to_z w128 (of_z w128 l.slope) ≡ l.slope = search rules in
    let at : to_z w128 (of_z w128 l.at) ≡ l.at = search rules in
    let value : to_z w128 (of_z w128 (to_z w128 (of_z w128 l.value) +ℤ to_z w128 (of_z w128 r.value))) ≡ l.value +ℤ r.value = search rules in
    λ v. rw (slope, at, value, c.in-Some-None.is-1) (value_with-add v l.sym l.slope l.at l.value r.value)

pub returns-in-None-default-clause-value : goal.returns-in-None-default-clause-value
returns-in-None-default-clause-value c =
    let l = c.args.left in
    let r = c.args.right in
    let slope : to_z w128 (of_z w128 r.slope) ≡ r.slope = search rules in
    let at : to_z w128 (of_z w128 r.at) ≡ r.at = search rules in
    let value : to_z w128 (of_z w128 (to_z w128 (of_z w128 l.value) +ℤ to_z w128 (of_z w128 r.value))) ≡ l.value +ℤ r.value = search rules in
    λ v. rw (slope, at, value, c.in-None-default.is-0) (value_with-add_left v r.sym r.slope r.at r.value l.value)
