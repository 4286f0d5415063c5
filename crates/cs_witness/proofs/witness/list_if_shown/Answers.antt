use Rattle.cs_witness.proofs.ListedOutcomes.{listed_fault, listed_over}
use Rattle.cs_witness.proofs.witness.list_if_shown.Goals as goal

pub returns-in-Ok-clause-found_reports : goal.returns-in-Ok-clause-found_reports
returns-in-Ok-clause-found_reports c form are evident =
    listed_fault c.args.findings.now.items c.args.suspect.now.what c.in-Ok.field-0 (rw c.as_slice.ensures.value at c.in-Ok.ensures.within)
    (rw c.as_slice.ensures.value at c.in-Ok.ensures.place) form are.form

pub returns-in-Ok-clause-found_overs : goal.returns-in-Ok-clause-found_overs
returns-in-Ok-clause-found_overs c form are evident =
    listed_over c.args.findings.now.items c.args.suspect.now.what c.in-Ok.field-0 (rw c.as_slice.ensures.value at c.in-Ok.ensures.within)
    (rw c.as_slice.ensures.value at c.in-Ok.ensures.place) form are.form
