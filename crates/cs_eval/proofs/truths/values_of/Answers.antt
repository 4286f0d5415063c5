use Rattle.std.proofs.Common.{rules, ◌≡◌, ℤ, sym, subst, to_z, of_z}
use Rattle.std.specs.Int.{w128}
use Rattle.cs_eval.specs.Operands.{IsBetween, LOWEST, HIGHEST}
use Rattle.cs_eval.proofs.Ends.{constant_ends, symbol_ends}
use Rattle.cs_eval.proofs.truths.values_of.Goals as goal

pub returns-in_default-clause-ends : goal.returns-in_default-clause-ends
returns-in_default-clause-ends c =
    let value : to_z w128 (of_z w128 c.args.term.value) ≡ c.args.term.value = search rules in
    rw value (constant_ends c.args.constraints.now c.args.term c.in_default.is)

pub values_over-requires-clause-values : goal.values_over-requires-clause-values
values_over-requires-clause-values c = λ x member.
    c.requires.values c.in-Some.sym c.in-Some-range_of.range.now c.in-Some.is (sym c.in-Some-range_of.ensures.set) x member

pub returns-clause-ends : goal.returns-clause-ends
returns-clause-ends c =
    symbol_ends c.args.constraints.now c.args.term c.in-Some.sym c.in-Some-range_of.range.now c.in-Some.is (sym c.in-Some-range_of.ensures.set)
    c.values_over.result c.values_over.ensures

pub returns-clause-low : goal.returns-clause-low
returns-clause-low c =
    subst (λ (n : ℤ). IsBetween LOWEST HIGHEST n) c.values_over.ensures.low
    (c.requires.values c.in-Some.sym c.in-Some-range_of.range.now c.in-Some.is (sym c.in-Some-range_of.ensures.set) c.values_over.ensures.low_at
    c.values_over.ensures.low_member)

pub returns-clause-high : goal.returns-clause-high
returns-clause-high c =
    subst (λ (n : ℤ). IsBetween LOWEST HIGHEST n) c.values_over.ensures.high
    (c.requires.values c.in-Some.sym c.in-Some-range_of.range.now c.in-Some.is (sym c.in-Some-range_of.ensures.set) c.values_over.ensures.high_at
    c.values_over.ensures.high_member)
