use Rattle.std.proofs.Common.{sym, subst}
use Rattle.cs_ranges.specs.RangeSet.{contains}
use Rattle.cs_terms.specs.Term.{value_of}
use Rattle.cs_access.specs.Checks.{IsPart}
use Rattle.cs_access.proofs.Splits.{part_of}
use Rattle.cs_access.proofs.checking.rest_of.Goals as goal

pub returns-in_ok-new-in-Some : goal.returns-in_ok-new-in-Some
returns-in_ok-new-in-Some c =
    let kept = rw c.in-Some.is at c.in_ok-state.ensures in
    let is = part_of c.args.state.now c.args.term c.args.good.now c.in-Some.state kept.0 kept.1 kept.2 in
    subst (IsPart c.args.state.now (λ v. contains c.args.good.now (value_of v c.args.term))) (sym c.in_ok-new-in-Some.ensures.ok) is
