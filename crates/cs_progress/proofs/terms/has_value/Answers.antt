use Rattle.std.proofs.Common.{Some, false, sym, ◌∙◌}
use Rattle.std.specs.Int.{w128}
use Rattle.std.proofs.lemmas.Int.{to_z-of_z}
use Rattle.std.proofs.lemmas.Bool.{false≢true}
use Rattle.cs_progress.proofs.KnownTerms.{never, same_truth}
use Rattle.cs_progress.proofs.terms.has_value.Goals as goal

pub returns-else-branch-clause-truth : goal.returns-else-branch-clause-truth
returns-else-branch-clause-truth c =
    let sets = c.args.state.now.constraints in
    let term = c.in_ok-term.term in
    let range = c.in-Some-range_of.range.now in
    same_truth sets c.args.term term c.args.value (Some false) c.in_ok-term.ensures.value
    (never sets range term c.in-Some.sym c.args.value c.in-Some.is (sym c.in-Some-range_of.ensures.set)
    (λ x member e. false≢true (sym c.if-branch.false ∙ c.in_ok-may_have.ensures x member (e ∙ sym (to_z-of_z w128 c.args.value c.ranges.value)))))
