use Rattle.std.proofs.Common.{rules, ◌≡◌}
use Rattle.std.specs.Prelude.{Some}
use Rattle.cs_types.specs.Layout.{complete_of}
use Rattle.cs_types.proofs.StructTables.{laid-align}
use Rattle.cs_types.proofs.layout.+align.Goals as goal

pub returns-in_ok-complete_struct-in-Struct : goal.returns-in_ok-complete_struct-in-Struct
returns-in_ok-complete_struct-in-Struct t c =
    let found : complete_of c.args.table.now.list c.in-Struct.number ≡ Some c.in_ok-complete_struct-in-Struct.field-0.now = search rules in
    rw c.in-Struct.is (laid-align c.args.model c.args.table.now.list c.in-Struct.number _ c.requires.laid_out found)
