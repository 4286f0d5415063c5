use Rattle.std.proofs.Common.{◌≡◌, ◌<◌, ◌+◌, ◌-◌, length, get_or, Err, rules, arith, refl, sym, subst}
use Rattle.std.specs.Prelude.{pos, FitsSigned}
use Rattle.std.specs.Int.{w128}
use Rattle.std.proofs.lemmas.Int.{to_z-of_z}
use Rattle.cs_types.specs.Shape.{shape_of}
use Rattle.cs_scopes.specs.Verdicts.{Fine, IsRefused, Answers}
use Rattle.cs_scopes.specs.TypeNames.{array_of, arrayed}
use Rattle.cs_scopes.proofs.ArraySizes.{array_taken, array_stops}
use Rattle.cs_scopes.proofs.type_names.arrayed.Goals as goal

pub returns-in_err-ty : goal.returns-in_err-ty
returns-in_err-ty c =
    let table = c.args.table.now.list in
    let numbers = c.args.numbers.now in
    let one : c.loop-i.i ≡ c.loop-i.i - 1 + 1 = omega (arith, c.loop-i-test.true) in
    let within : c.loop-i.i - 1 < length numbers = omega (arith, c.loop-i-test.true, c.loop-i.invariant.within) in
    let fits : FitsSigned w128 (get_or c.args.numbers.now (c.loop-i.i - 1) (pos 0)) = search rules in
    let refused : IsRefused (array_of c.args.model c.args.table.now.list c.args.place (get_or c.args.numbers.now (c.loop-i.i - 1) (pos 0))
    (shape_of c.loop-i.ty)) c.in_err-ty.field-0.0 = simp to_z-of_z at c.in_err-ty.ensures in
    let e : c.from_residual.result ≡ Err c.in_err-ty.field-0.0 = search rules in
    subst (Answers shape_of (arrayed c.args.model table c.args.place (shape_of c.args.base) numbers)) (sym e)
    (array_stops c.args.model table c.args.place (shape_of c.args.base) (c.loop-i.i - 1) c.loop-i.i numbers (get_or numbers (c.loop-i.i - 1) (pos 0))
    (shape_of c.loop-i.ty) c.in_err-ty.field-0.0 one within refl c.loop-i.invariant.so_far refused)

pub loop-i-preserved : goal.loop-i-preserved
loop-i-preserved c =
    let table = c.args.table.now.list in
    let numbers = c.args.numbers.now in
    let one : c.loop-i.i ≡ c.loop-i.i - 1 + 1 = omega (arith, c.loop-i-test.true) in
    let within : c.loop-i.i - 1 < length numbers = omega (arith, c.loop-i-test.true, c.loop-i.invariant.within) in
    let fits : FitsSigned w128 (get_or c.args.numbers.now (c.loop-i.i - 1) (pos 0)) = search rules in
    let made : array_of c.args.model c.args.table.now.list c.args.place (get_or c.args.numbers.now (c.loop-i.i - 1) (pos 0)) (shape_of c.loop-i.ty)
    ≡ Fine (shape_of c.in_ok-ty.ty) = simp to_z-of_z at c.in_ok-ty.ensures in
    record {
      within = omega (arith, within);
      so_far = array_taken c.args.model table c.args.place (shape_of c.args.base) (c.loop-i.i - 1) c.loop-i.i numbers (get_or numbers (c.loop-i.i - 1) (pos 0))
          (shape_of c.loop-i.ty) (shape_of c.in_ok-ty.ty) one within refl c.loop-i.invariant.so_far made;
    }
