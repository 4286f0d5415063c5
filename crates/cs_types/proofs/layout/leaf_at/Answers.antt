use Rattle.std.proofs.Common.{rules, ◌≡◌, sym, arith}
use Rattle.std.specs.Prelude.{Some, None}
use Rattle.std.specs.Option.{option_map}
use Rattle.cs_types.specs.declared.layout.Base.TheVariants.{Scalar, Inside}
use Rattle.cs_types.specs.Shape.{shape_of}
use Rattle.cs_types.specs.Layout.{Layout, layout_of, leaf_of}
use Rattle.cs_types.specs.LeafSearch.{DividesArrays, EntersMember}
use Rattle.cs_types.proofs.Descent.{InStruct, begins, none_found, scalar_found, struct_found, struct-turn, no_member, member_found}
use Rattle.cs_types.proofs.layout.leaf_at.Goals as goal

pub loop-found-init : goal.loop-found-init
loop-found-init c =
    let size : Some c.in_ok-size.field-0 ≡ option_map (λ (l : Layout). l.size) (layout_of c.args.model c.args.table.now.list (shape_of c.args.ty.now)) =
    search rules in
    rw c.as_slice-depth.ensures (begins c.args.model c.args.table.now.list (shape_of c.args.ty.now) c.args.offset c.in_ok-size.field-0 c.requires.small size)

pub returns-in_err-found : goal.returns-in_err-found
returns-in_err-found c =
    let none : c.base_at.result ≡ None = search rules in
    let divided : DividesArrays c.args.model c.args.table.now.list (shape_of c.loop-found.held.now) c.loop-found.rest None = rw none at c.base_at.ensures in
    rw c.from_residual-in_err-found.ensures (sym (none_found _ _ _ _ _ _ c.loop-found.invariant divided))

pub returns-in-Scalar : goal.returns-in-Scalar
returns-in-Scalar c =
    let there : c.base_at.result ≡ Some (Scalar c.in-Scalar.found) = search rules in
    let divided : DividesArrays c.args.model c.args.table.now.list (shape_of c.loop-found.held.now) c.loop-found.rest (Some (Scalar c.in-Scalar.found)) =
    rw there at c.base_at.ensures in
    sym (scalar_found _ _ _ _ _ _ c.in-Scalar.found c.loop-found.invariant divided)

pub returns-in_err-held-in-Inside : goal.returns-in_err-held-in-Inside
returns-in_err-held-in-Inside c =
    let there : c.base_at.result ≡ Some (Inside c.in-Inside.number c.in-Inside.inside) = search rules in
    let divided : DividesArrays c.args.model c.args.table.now.list (shape_of c.loop-found.held.now) c.loop-found.rest
    (Some (Inside c.in-Inside.number c.in-Inside.inside)) = rw there at c.base_at.ensures in
    let inside = struct_found _ _ _ _ _ _ c.in-Inside.number c.in-Inside.inside c.loop-found.invariant divided in
    let none : c.member_at.result ≡ None = search rules in
    let entered : EntersMember c.args.model c.args.table.now.list c.in-Inside.number c.in-Inside.inside None = rw none at c.member_at.ensures in
    rw c.from_residual-in_err-held-in-Inside.ensures (sym (no_member _ _ _ _ _ _ inside entered))

-- the struct that is entered
inside : (c : goal.In_ok-held-in-Inside)
    → InStruct c.args.model c.args.table.now.list c.loop-found.depth c.in-Inside.number c.in-Inside.inside
    (leaf_of c.args.model c.args.table.now.list (shape_of c.args.ty.now) c.args.offset)
inside c =
    let there : c.base_at.result ≡ Some (Inside c.in-Inside.number c.in-Inside.inside) = search rules in
    let divided : DividesArrays c.args.model c.args.table.now.list (shape_of c.loop-found.held.now) c.loop-found.rest
    (Some (Inside c.in-Inside.number c.in-Inside.inside)) = rw there at c.base_at.ensures in
    struct_found _ _ _ _ _ _ c.in-Inside.number c.in-Inside.inside c.loop-found.invariant divided

pub overflow_sub-depth : goal.overflow_sub-depth
overflow_sub-depth c = struct-turn _ _ _ _ _ _ (inside c)

pub loop-found-smaller : goal.loop-found-smaller
loop-found-smaller c =
    let above = struct-turn _ _ _ _ _ _ (inside c) in
    omega arith

pub loop-found-preserved : goal.loop-found-preserved
loop-found-preserved c =
    let there : c.member_at.result ≡ Some (c.in_ok-held-in-Inside.field-0-0, c.in_ok-held-in-Inside.field-0-1) = search rules in
    let entered : EntersMember c.args.model c.args.table.now.list c.in-Inside.number c.in-Inside.inside
    (Some (c.in_ok-held-in-Inside.field-0-0, c.in_ok-held-in-Inside.field-0-1)) = rw there at c.member_at.ensures in
    member_found _ _ _ _ _ _ c.in_ok-held-in-Inside.field-0-0 c.in_ok-held-in-Inside.field-0-1 (inside c) entered
