use Rattle.std.proofs.Common.{◌∙◌}
use Rattle.cs_cfg.specs.GraphView.{block_end}
use Rattle.cs_cfg.proofs.Reported.{reported_inside, reported_after, reported_nowhere}
use Rattle.cs_cfg.proofs.touch.touch_of_operations.Goals as goal

pub returns-in-Some : goal.returns-in-Some
returns-in-Some c =
    record {
      reported = c.touch.ensures.reported
          ∙ reported_inside c.args.operations.now (block_end c.args.end.now) c.args.number c.in-Some.operation c.in-Some.ensures.lookup;
    }

pub returns-in-None : goal.returns-in-None
returns-in-None c =
    record {
      reported = c.touch-in-None.ensures.reported ∙ reported_after c.args.operations.now (block_end c.args.end.now) c.args.number c.if-number-operations.true;
    }

pub returns-in-None-2 : goal.returns-in-None-2
returns-in-None-2 c =
    record { reported = reported_nowhere c.args.operations.now (block_end c.args.end.now) c.args.number c.in-None.ensures.lookup c.if-number-operations.false }
