use Rattle.std.proofs.Common.{◌∙◌}
use Rattle.cs_cfg.proofs.Reported.{reported_with_counted_point}
use Rattle.cs_cfg.proofs.code.Block.touch.Goals as goal

pub returns-in-Some-2 : goal.returns-in-Some-2
returns-in-Some-2 c = record {
  reported = c.touch_of_operations.ensures.reported
      ∙ reported_with_counted_point c.args.self.now c.in-Some-2.field-0 c.deref.result.now c.args.number c.in-Some-2.is c.deref.ensures.value
      c.if-number-eq0.false;
}
