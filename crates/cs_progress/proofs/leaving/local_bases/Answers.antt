use Rattle.cs_state.specs.Naming.{naming}
use Rattle.cs_progress.proofs.Extending.{extends_same, extends_on}
use Rattle.cs_progress.proofs.leaving.local_bases.Goals as goal

pub loop-declaration-preserved : goal.loop-declaration-preserved
loop-declaration-preserved c =
    (c.in_ok-add_local.ensures.locals, extends_on _ _ _ c.loop-declaration.invariant.1 c.add_local.ensures.extends)
