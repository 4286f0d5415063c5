use Rattle.std.proofs.Common.{ap, ◌∙◌}
use Rattle.std.specs.Prelude.{length}
use Rattle.cs_state.proofs.Depths.{length-nearest_first}
use Rattle.cs_state.proofs.callers.Callers.depth.Goals as goal

pub returns : goal.returns
returns c = rw (← c.self.view_is) (length-nearest_first c.self.inside.frames c.self.inside.depth)
