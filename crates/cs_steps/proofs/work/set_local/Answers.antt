use Rattle.cs_steps.proofs.work.set_local.Goals as goal

pub returns-in-StoreLocal-clause-work : goal.returns-in-StoreLocal-clause-work
returns-in-StoreLocal-clause-work c = λ at progress. rw c.in-StoreLocal.is (c.initialize.ensures.work at c.in-StoreLocal.field-3 progress)
