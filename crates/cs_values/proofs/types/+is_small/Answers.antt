use Rattle.cs_values.proofs.Layouts.{struct_is_small}
use Rattle.cs_values.proofs.types.+is_small.Goals as goal

pub returns-in-Struct : goal.returns-in-Struct
returns-in-Struct t c =
    λ yes. rw c.in-Struct.is (struct_is_small c.args.model c.args.table.now.list c.in-Struct.field-0 c.requires)
