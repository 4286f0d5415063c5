use Rattle.cs_state.proofs.Numbers.{input_here}
use Rattle.cs_state.proofs.laws.inputs_are_their_symbols.Goals as goal

pub returns : goal.returns
returns c = input_here
