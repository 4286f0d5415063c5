use Rattle.indexmap.specs.IndexMap.{keys}
use Rattle.cs_terms.specs.Table.{IsNumbered}
use Rattle.cs_terms.proofs.Names.{eq, eq-laws, eq-true}
use Rattle.cs_terms.proofs.Numbering.{kept_number, has_number, once_from_distinct, numbered_by_insert}
use Rattle.cs_terms.proofs.table.SymTable.number_of.Goals as goal

numbered : (c : goal.In_ok-place) → IsNumbered (keys c.args.self.now.names) c.args.name c.in_ok-place.place (keys c.insert_full.new.self)
numbered c =
    rw (c.in_ok-place.ensures.index, c.in_ok-place.ensures.entries) (numbered_by_insert eq eq-laws eq-true c.args.self.now.names.entries c.args.name)

pub returns-in_err-place-clause-once : goal.returns-in_err-place-clause-once
returns-in_err-place-clause-once c = once_from_distinct eq eq-laws eq-true _ c.in_err-place.ensures.unique

pub returns-clause-name : goal.returns-clause-name
returns-clause-name c = has_number _ _ _ _ (numbered c)

pub returns-clause-place : goal.returns-clause-place
returns-clause-place c = numbered c

pub returns-clause-kept : goal.returns-clause-kept
returns-clause-kept c = λ k known. kept_number _ _ _ known _ k (numbered c)

pub returns-clause-once : goal.returns-clause-once
returns-clause-once c = once_from_distinct eq eq-laws eq-true _ c.in_ok-place.ensures.unique
