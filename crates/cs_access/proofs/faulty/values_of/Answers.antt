use Rattle.cs_access.proofs.FaultyValues.{if_ok_map, over_symbol, over_number}
use Rattle.cs_access.proofs.faulty.values_of.Goals as goal

pub returns-in-Some : goal.returns-in-Some
returns-in-Some c =
    if_ok_map c.values_in.result c.values_in.ensures (λ set same. over_symbol c.args.cond.now set (λ none. cc) same)

pub returns-in-None : goal.returns-in-None
returns-in-None c =
    if_ok_map c.all_or_none.result c.all_or_none.ensures
    (λ set all. over_number c.args.cond.now set c.has_sum.result c.in-None.is c.has_sum.ensures all)
