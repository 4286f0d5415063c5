use Rattle.std.proofs.Common.{rules, ◌≡◌, ℕ, ◌*◌, ap}
use Rattle.std.specs.Prelude.{Some, None, Option}
use Rattle.std.specs.Option.{option_map}
use Rattle.cs_types.specs.Layout.{Layout, repeated, complete_of, layout_of}
use Rattle.cs_types.specs.Shape.{shape_of}
use Rattle.cs_types.proofs.StructTables.{laid-size}
use Rattle.cs_types.proofs.layout.+size.Goals as goal

pub returns-in_ok-complete_struct-in-Struct : goal.returns-in_ok-complete_struct-in-Struct
returns-in_ok-complete_struct-in-Struct t c =
    let found : complete_of c.args.table.now.list c.in-Struct.number ≡ Some c.in_ok-complete_struct-in-Struct.field-0.now = search rules in
    rw c.in-Struct.is (laid-size c.args.model c.args.table.now.list c.in-Struct.number _ c.requires.laid_out found)

repeated-size : (count n : ℕ) (o : Option Layout) → Some n ≡ option_map (λ (l : Layout). l.size) o
    → Some (count * n) ≡ option_map (λ (l : Layout). l.size) (option_map (repeated count) o)
repeated-size count n None h = cc
repeated-size count n (Some l) h = ap Some (let e : n ≡ l.size = cc in ap (λ x. count * x) e)

pub returns-in_ok-size-in-Array : goal.returns-in_ok-size-in-Array
returns-in_ok-size-in-Array t c =
    let inner : Some c.in_ok-size-in-Array.field-0 ≡ option_map (λ (l : Layout).
    l.size) (layout_of c.args.model c.args.table.now.list (shape_of c.in-Array.element.value)) = search rules in
    rw c.in-Array.is (repeated-size c.in-Array.count c.in_ok-size-in-Array.field-0 _ inner)
