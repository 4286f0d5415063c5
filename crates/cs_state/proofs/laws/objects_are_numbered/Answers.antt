use Rattle.cs_state.proofs.Numbers.{number_here}
use Rattle.cs_state.proofs.laws.objects_are_numbered.Goals as goal

pub returns : goal.returns
returns c = number_here
