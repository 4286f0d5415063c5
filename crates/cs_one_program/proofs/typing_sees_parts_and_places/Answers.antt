use Rattle.cs_one_program.proofs.Laws.{typing_sees_parts_and_places}
use Rattle.cs_one_program.proofs.typing_sees_parts_and_places.Goals as goal

pub returns : goal.returns
returns c = typing_sees_parts_and_places
