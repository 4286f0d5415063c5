use Rattle.cs_scopes.proofs.DeclaredNames.{last_place, indexed_less}
use Rattle.cs_scopes.proofs.entries.take_last.Goals as goal

pub put_back-requires : goal.put_back-requires
put_back-requires c = last_place c.args.places.now c.args.list.now.items c.pop.new.self.items c.in-Some.entry c.requires c.in-Some.ensures.items

pub returns-in-Some-clause-indexed : goal.returns-in-Some-clause-indexed
returns-in-Some-clause-indexed c =
    indexed_less c.args.places.now c.put_back.new.places c.args.list.now.items c.pop.new.self.items c.in-Some.entry c.requires c.in-Some.ensures.items
    c.put_back.ensures
