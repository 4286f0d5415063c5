use Rattle.cs_corners.proofs.Questions.{corners_have}
use Rattle.cs_corners.proofs.laws.corners_have_ground.Goals as goal

pub returns : goal.returns
returns c = corners_have
