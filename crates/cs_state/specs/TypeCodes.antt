-- How a proof distinguishes lists of types.
use Rattle.std.specs.Prelude.{List}
use Rattle.std.specs.Coded.{Coded, coded_list}
use Rattle.cs_types.specs.Shape.{Shape}
use Rattle.cs_types.specs.Codes.{shape_code}

abbrev pub shapes_code : Coded (List Shape)
shapes_code = coded_list shape_code
