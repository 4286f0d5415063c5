use Rattle.cs_regions.proofs.SameBase.{same_base, base_itself}
use Rattle.cs_regions.proofs.Places.{get_inserted, inserted_seen, one_place}
use Rattle.cs_regions.proofs.table.BaseTable.number_of.Goals as goal

pub returns-clause-number : goal.returns-clause-number
returns-clause-number c =
    rw (c.in_ok-number.ensures.index, c.in_ok-number.ensures.entries) (get_inserted _ base_itself same_base _ c.args.base _)

pub returns-clause-seen : goal.returns-clause-seen
returns-clause-seen c = rw c.in_ok-number.ensures.entries (inserted_seen _ base_itself same_base _ c.args.base _)

pub returns-clause-once : goal.returns-clause-once
returns-clause-once c = one_place _ base_itself _ c.insert_full.ensures.unique

pub returns-in_err-number-clause-once : goal.returns-in_err-number-clause-once
returns-in_err-number-clause-once c = one_place _ base_itself _ c.insert_full.ensures.unique
