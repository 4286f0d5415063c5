-- The control points of the pieces of an initializer, which are stored one after another, and what is reached first there.
use Rattle.std.specs.Prelude.{List, [], ◌∷◌, ◌++◌}
use Rattle.cs_meaning.specs.Initials.{Piece, Evaluated, Spelled}
use Rattle.cs_cfg.specs.ControlPoints.{Next, ControlPoint, first, points}

abbrev pub first_pieces : List Piece → Next → Next
first_pieces [] following = following
first_pieces (Evaluated offset e ∷ others) following = first e (first_pieces others following)
first_pieces (Spelled offset bytes ∷ others) following = first_pieces others following

abbrev pub points_pieces : List Piece → Next → List ControlPoint
points_pieces [] following = []
points_pieces (Evaluated offset e ∷ others) following = points e (first_pieces others following) ++ points_pieces others following
points_pieces (Spelled offset bytes ∷ others) following = points_pieces others following
