use Rattle.std.proofs.Common.{Some, None}
use Rattle.cs_types.specs.Shape.{shape_of}
use Rattle.cs_values.proofs.Layouts.{array_is_small}
use Rattle.cs_values.proofs.types.is_small_row.Goals as goal

pub returns-in-Some : goal.returns-in-Some
returns-in-Some c =
    λ small.
    array_is_small c.args.model c.args.table.now.list (shape_of c.args.element.now) c.args.count (Some c.in-Some.bytes) c.in-Some.ensures
    (c.is_small_product.ensures small)

pub returns-in-None : goal.returns-in-None
returns-in-None c =
    λ small. array_is_small c.args.model c.args.table.now.list (shape_of c.args.element.now) c.args.count None c.in-None.ensures tt
