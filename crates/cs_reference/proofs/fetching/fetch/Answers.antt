use Rattle.std.proofs.Common.{sym, ◌∙◌, subst}
use Rattle.cs_events.specs.Acts.{Act}
use Rattle.cs_meaning.specs.Machine.{State}
use Rattle.cs_runner.specs.RunnerView.{program_of, budgets_of, state_in, Performs}
use Rattle.cs_reference.proofs.ExpressionForms.{fetch_number_is}
use Rattle.cs_reference.proofs.fetching.fetch.Goals as goal

pub returns-in-Update : goal.returns-in-Update
returns-in-Update c =
    let run = c.args.run.now in
    let same = fetch_number_is (program_of run) (budgets_of run) c.args.e.now (state_in run) c.in-Update.field-0 c.in-Update.object c.in-Update.field-2
    c.in-Update.works_in c.in-Update.field-4 (sym c.deref.ensures ∙ c.in-Update.is) in
    subst (λ (a : Act State). Performs run c.fetch_number.new.run c.fetch_number.result a) (sym same) c.fetch_number.ensures
