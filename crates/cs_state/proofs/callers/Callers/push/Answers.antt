use Rattle.std.proofs.Common.{ap, ◌∙◌}
use Rattle.cs_state.proofs.Depths.{pushed}
use Rattle.cs_state.proofs.callers.Callers.push.Goals as goal

pub returns-clause-ok : goal.returns-clause-ok
returns-clause-ok c =
    rw (← c.self.view_is, c.in_ok-insert.ensures.ok, c.in-Some.ensures.1) (pushed c.self.inside.frames c.self.inside.depth c.args.frame)
