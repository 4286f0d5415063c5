use Rattle.cs_progress.proofs.Extending.{extends_on}
use Rattle.cs_steps.proofs.heap.allocated.Goals as goal

pub returns-in_err-set_block : goal.returns-in_err-set_block
returns-in_err-set_block c = extends_on _ _ _ c.sym.ensures.extends (extends_on _ _ _ c.base.ensures.extends c.heap_block.ensures)

pub returns-in_err-fill : goal.returns-in_err-fill
returns-in_err-fill c = extends_on _ _ _ c.sym.ensures.extends (extends_on _ _ _ c.base.ensures.extends c.heap_block.ensures)

pub returns : goal.returns
returns c = extends_on _ _ _ c.sym.ensures.extends (extends_on _ _ _ c.base.ensures.extends c.heap_block.ensures)
