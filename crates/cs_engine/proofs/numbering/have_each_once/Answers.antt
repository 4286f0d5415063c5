use Rattle.cs_regions.proofs.SameBase.{base_itself}
use Rattle.cs_regions.proofs.Places.{one_place}
use Rattle.cs_terms.proofs.Names.{eq, eq-laws, eq-true}
use Rattle.cs_terms.proofs.Numbering.{once_from_distinct}
use Rattle.cs_engine.proofs.numbering.have_each_once.Goals as goal

pub returns-clause-bases : goal.returns-clause-bases
returns-clause-bases c = one_place _ base_itself _ c.len-bases.ensures.unique

pub returns-clause-syms : goal.returns-clause-syms
returns-clause-syms c = once_from_distinct eq eq-laws eq-true _ c.len-syms.ensures.unique
