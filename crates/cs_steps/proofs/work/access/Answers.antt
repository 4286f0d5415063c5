use Rattle.cs_steps.proofs.work.access.Goals as goal

pub returns-in-Load-clause-work : goal.returns-in-Load-clause-work
returns-in-Load-clause-work g c = λ every. rw c.in-Load.is (c.load_in_place.ensures.work every c.args.operation.now.place)

pub returns-in-FetchPointer-clause-work : goal.returns-in-FetchPointer-clause-work
returns-in-FetchPointer-clause-work g c = λ every code names program budgets known model extends numbered have integer.
    absurd (rw c.in-FetchPointer.is at integer)

pub returns-in-FetchNumber-clause-work : goal.returns-in-FetchNumber-clause-work
returns-in-FetchNumber-clause-work g c = λ every. rw c.in-FetchNumber.is (c.fetch_number.ensures.work every)

pub returns-in-Store-clause-work : goal.returns-in-Store-clause-work
returns-in-Store-clause-work g c = λ every. rw c.in-Store.is (c.assign.ensures.work every c.args.operation.now.place)

pub returns-in-Update-clause-work : goal.returns-in-Update-clause-work
returns-in-Update-clause-work g c = λ every. rw c.in-Update.is (c.update.ensures.work every)

pub returns-in-Move-clause-work : goal.returns-in-Move-clause-work
returns-in-Move-clause-work g c = λ every code names program budgets known model extends numbered have integer. absurd (rw c.in-Move.is at integer)

pub returns-in-Allocate-clause-work : goal.returns-in-Allocate-clause-work
returns-in-Allocate-clause-work g c = λ every code names program budgets known model extends numbered have integer. absurd (rw c.in-Allocate.is at integer)

pub returns-in-Free-clause-work : goal.returns-in-Free-clause-work
returns-in-Free-clause-work g c = λ every code names program budgets known model extends numbered have integer. absurd (rw c.in-Free.is at integer)

pub returns-in_default-clause-work : goal.returns-in_default-clause-work
returns-in_default-clause-work g c = λ every. c.set_local.ensures.work c.args.operation.now.place c.args.attempt.now.progress
