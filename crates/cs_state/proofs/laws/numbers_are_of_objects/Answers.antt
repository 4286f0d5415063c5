use Rattle.cs_state.proofs.Numbers.{number_of_object}
use Rattle.cs_state.proofs.laws.numbers_are_of_objects.Goals as goal

pub returns : goal.returns
returns c = number_of_object
