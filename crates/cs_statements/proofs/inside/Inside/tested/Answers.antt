use Rattle.std.proofs.Common.{refl}
use Rattle.cs_consts.specs.Roles.{test_of}
use Rattle.cs_statements.specs.View.{inside_of}
use Rattle.cs_statements.proofs.StatementsInTurn.{typed_after}
use Rattle.cs_statements.proofs.inside.Inside.tested.Goals as goal

pub returns : goal.returns
returns c =
    let known = c.args.self.now.known in
    typed_after (inside_of c.args.self.now) c.args.tree.now (test_of known.context known.literals.items c.args.place c.args.tree.now) c.test.result
    c.test.new.literals.items _ c.test.ensures.reported c.test.ensures.texts refl
