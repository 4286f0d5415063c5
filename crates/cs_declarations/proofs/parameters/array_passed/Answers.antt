use Rattle.std.proofs.Common.{◌≡◌, rules, sym, ap, subst, ◌∙◌, FitsSigned}
use Rattle.std.specs.Int.{w128}
use Rattle.std.proofs.lemmas.Int.{to_z-of_z}
use Rattle.cs_types.specs.Shape.{shape_of}
use Rattle.cs_scopes.specs.Verdicts.{Answers, Fine}
use Rattle.cs_scopes.specs.TypeNames.{array_of}
use Rattle.cs_declarations.specs.Parameters.{array_passed}
use Rattle.cs_declarations.specs.View.{passed_of}
use Rattle.cs_declarations.proofs.PassedArrays.{array_as_passed}
use Rattle.cs_declarations.proofs.parameters.array_passed.Goals as goal

pub returns-in_ok-array-in-Some : goal.returns-in_ok-array-in-Some
returns-in_ok-array-in-Some c =
    let context = c.args.context.now in
    let element = shape_of c.args.element in
    let whole = shape_of c.in_ok-array-in-Some.array in
    let fits : FitsSigned w128 c.in-Some.number = search rules in
    let made : array_of c.args.context.now.model c.args.context.now.table.list c.args.place c.in-Some.number (shape_of c.args.element)
    ≡ Fine (shape_of c.in_ok-array-in-Some.array) = simp to_z-of_z at c.in_ok-array-in-Some.ensures in
    subst (λ v. Answers passed_of v c.plainly_passed.result)
    (sym (ap (λ size. array_passed context c.args.place size element) c.in-Some.is
    ∙ array_as_passed context c.args.place c.in-Some.number element whole made)) c.plainly_passed.ensures
