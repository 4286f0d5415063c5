use Rattle.std.proofs.Common.{sym, ◌∙◌}
use Rattle.cs_declarations.specs.Environment.{declarations_of}
use Rattle.cs_declarations.specs.View.{environment_of}
use Rattle.cs_declarations.proofs.InnerNames.{newest_inside}
use Rattle.cs_declarations.proofs.environment.Environment.meaning_here.Goals as goal

pub returns-then-is_declared_here : goal.returns-then-is_declared_here
returns-then-is_declared_here c =
    c.newest.ensures
    ∙ newest_inside c.args.name.now c.args.self.now.outer (declarations_of (environment_of c.args.self.now)) (sym c.is_declared_here.ensures
    ∙ c.if-is_declared_here.true)
