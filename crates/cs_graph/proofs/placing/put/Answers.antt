use Rattle.std.proofs.Common.{◌∙◌}
use Rattle.indexmap.proofs.CallerLemmas.{insert_entry-new}
use Rattle.cs_graph.proofs.placing.put.Goals as goal

pub returns-clause-keys : goal.returns-clause-keys
returns-clause-keys g c =
    c.in-Ok.ensures.entries ∙ insert_entry-new g.K.PartialEq.eq c.args.keys.now c.args.key c.args.number c.requires.new
