use Rattle.cs_cfg.proofs.SpotStates.{begins_block}
use Rattle.cs_cfg.proofs.laws.blocks_begin_at_spots.Goals as goal

pub returns : goal.returns
returns c = λ code function block. begins_block code function block
