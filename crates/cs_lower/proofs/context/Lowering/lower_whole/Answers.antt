use Rattle.std.proofs.Common.{ap, ◌∙◌}
use Rattle.cs_cfg.specs.Graph as graph
use Rattle.cs_cfg.specs.Placing.{does}
use Rattle.cs_lower.proofs.WholeBodies.{body_made}
use Rattle.cs_lower.proofs.context.Lowering.lower_whole.Goals as goal

pub returns : goal.returns
returns c =
    body_made c.in_ok-finishing.ensures c.ending-finish.ensures c.gives_nothing-nothing.ensures
    (c.in_ok-following.ensures ∙ ap (does c.args.self.now.function.now.end 0 (graph.Close c.gives_nothing-nothing.result)) c.ending-leaving.ensures)
    c.in_ok-inside.ensures c.in_ok-entry.ensures c.in_ok-block.ensures
