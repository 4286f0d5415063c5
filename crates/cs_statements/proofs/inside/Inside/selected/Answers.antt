use Rattle.std.proofs.Common.{refl}
use Rattle.cs_consts.specs.Roles.{selector_of}
use Rattle.cs_statements.specs.View.{inside_of}
use Rattle.cs_statements.proofs.StatementsInTurn.{typed_after}
use Rattle.cs_statements.proofs.inside.Inside.selected.Goals as goal

pub returns : goal.returns
returns c =
    let known = c.args.self.now.known in
    typed_after (inside_of c.args.self.now) c.args.tree.now (selector_of known.context known.literals.items c.args.place c.args.tree.now) c.selector.result
    c.selector.new.literals.items _ c.selector.ensures.reported c.selector.ensures.texts refl
