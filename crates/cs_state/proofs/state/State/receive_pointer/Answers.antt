use Rattle.std.proofs.Common.{◌∙◌, refl}
use Rattle.std.specs.Prelude.{pos}
use Rattle.cs_state.proofs.state.State.receive_pointer.Goals as goal

pub declare-requires : goal.declare-requires
declare-requires c = (pos 0, c.in_ok-truths.ensures.numbers (pos 0))
