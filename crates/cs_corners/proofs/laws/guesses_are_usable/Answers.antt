use Rattle.cs_corners.proofs.Narrower.{usable}
use Rattle.cs_corners.proofs.laws.guesses_are_usable.Goals as goal

pub returns : goal.returns
returns c = usable
