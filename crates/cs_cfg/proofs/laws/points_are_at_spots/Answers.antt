use Rattle.cs_cfg.proofs.PointsAtSpots.{has_spot}
use Rattle.cs_cfg.proofs.laws.points_are_at_spots.Goals as goal

pub returns : goal.returns
returns c = λ code function flow p e occurs. has_spot code function flow p e occurs
