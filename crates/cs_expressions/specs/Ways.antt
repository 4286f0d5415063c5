-- How a value is converted to a type, and two values to one type, as the functions for conversions pass it to one another.
use Rattle.cs_types.specs.Shape.{shape_of}
use Rattle.cs_ast.specs.declared.place.Place.{Place}
use Rattle.cs_ast.specs.TypedTree.{Typed, Of, Null, Convert}
use Rattle.cs_scopes.specs.declared.refusal.TypeCode.TheVariants as code
use Rattle.cs_expressions.specs.declared.ways.Way.{Way}
use Rattle.cs_expressions.specs.declared.ways.Way.TheVariants as way
use Rattle.cs_expressions.specs.declared.ways.Meeting.{Meeting}
use Rattle.cs_expressions.specs.declared.ways.Meeting.TheVariants as meeting
use Rattle.cs_scopes.specs.Verdicts.{Verdict, Fine, Fault}
use Rattle.cs_folding.specs.TypedParts.{type_of}
use Rattle.cs_expressions.specs.Integers.{in_type}
use Rattle.cs_expressions.specs.Conversions.{Pair}

-- a value, converted in a way
abbrev pub by_way : Place → Typed → Way → Verdict Typed
by_way at e way.Kept = Fine e
by_way at e (way.Integer ty) = Fine (in_type at ty e)
by_way at e (way.Null ty) = Fine (Of at (shape_of ty.now) Null)
by_way at e (way.Convert ty) = Fine (Of at (shape_of ty.now) (Convert e))
by_way at e (way.Refused why) = Fault why at

-- two values, converted to one type in a way
abbrev pub by_meeting : Place → Typed → Typed → Meeting → Verdict Pair
by_meeting at left right (meeting.Integers ty) = Fine (record { left = in_type at ty left; right = in_type at ty right })
by_meeting at left right meeting.Kept = Fine (record { left = left; right = right })
by_meeting at left right meeting.RightNull = Fine (record { left = left; right = Of at (type_of left) Null })
by_meeting at left right meeting.LeftNull = Fine (record { left = Of at (type_of right) Null; right = right })
by_meeting at left right meeting.RightConverts = Fine (record { left = left; right = Of at (type_of left) (Convert right) })
by_meeting at left right meeting.LeftConverts = Fine (record { left = Of at (type_of right) (Convert left); right = right })
by_meeting at left right meeting.Refused = Fault code.OperandTypes at
