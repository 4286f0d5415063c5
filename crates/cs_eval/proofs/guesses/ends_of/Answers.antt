use Rattle.std.proofs.Common.{sym}
use Rattle.cs_terms.proofs.Narrow.{inside_same}
use Rattle.cs_eval.proofs.Records.{range_ends}
use Rattle.cs_eval.proofs.guesses.ends_of.Goals as goal

pub returns-in-Some-Some : goal.returns-in-Some-Some
returns-in-Some-Some c =
    let ends = c.in-Some-Some in
    rw (inside_same ends.low ends.ensures.inside, inside_same ends.high ends.ensures'.inside)
    (range_ends c.args.constraints.now c.args.term.sym c.in-Some.sym (record { low = ends.low; high = ends.high }) c.in-Some-range_of.range.now c.in-Some.is
    (sym c.in-Some-range_of.ensures.set) ends.ensures.least ends.ensures'.greatest)
