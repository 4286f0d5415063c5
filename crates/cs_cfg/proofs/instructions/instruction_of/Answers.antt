use Rattle.cs_cfg.specs.GraphView.{block_end}
use Rattle.cs_cfg.proofs.FirstInstructions.{first_inside, first_at_end, first_past}
use Rattle.cs_cfg.proofs.instructions.instruction_of.Goals as goal

pub returns-in-Some : goal.returns-in-Some
returns-in-Some c =
    record {
      first = first_inside c.args.operations.now (block_end c.args.end.now) c.args.number c.in-Some.operation c.in-Some.ensures.lookup;
    }

pub returns-in-None : goal.returns-in-None
returns-in-None c =
    record { first = first_at_end c.args.operations.now (block_end c.args.end.now) c.args.number c.if-number-operations.true }

pub returns-in-None-2 : goal.returns-in-None-2
returns-in-None-2 c =
    record { first = first_past c.args.operations.now (block_end c.args.end.now) c.args.number c.in-None.ensures.lookup c.if-number-operations.false }
