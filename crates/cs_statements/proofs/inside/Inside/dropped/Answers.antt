use Rattle.std.proofs.Common.{refl}
use Rattle.cs_consts.specs.Roles.{discarded_value}
use Rattle.cs_statements.specs.View.{inside_of}
use Rattle.cs_statements.proofs.StatementsInTurn.{typed_after}
use Rattle.cs_statements.proofs.inside.Inside.dropped.Goals as goal

pub returns : goal.returns
returns c =
    let known = c.args.self.now.known in
    typed_after (inside_of c.args.self.now) c.args.tree.now (discarded_value known.context known.literals.items c.args.tree.now) c.discarded.result
    c.discarded.new.literals.items _ c.discarded.ensures.reported c.discarded.ensures.texts refl
