use Rattle.std.proofs.Common.{◌≡◌, true, rules, sym, subst, ◌∙◌}
use Rattle.std.specs.Prelude.{option_copied, is_some}
use Rattle.cs_types.specs.Shape.{shape_of}
use Rattle.cs_scopes.specs.TypeNames.{starred}
use Rattle.cs_scopes.specs.Verdicts.{Answers}
use Rattle.cs_declarations.specs.Environment.{meaning_here}
use Rattle.cs_file_scope.specs.Functions.{may_be_function}
use Rattle.cs_file_scope.specs.View.{filed_of}
use Rattle.cs_typing.proofs.FunctionResults.{still_some, result_taken}
use Rattle.cs_typing.proofs.bodies.with_function.Goals as goal

pub returns : goal.returns
returns c =
    let d = c.args.head.now in
    let f = filed_of c.args.filed in
    let result = shape_of c.in_ok-returns.returns in
    let is : shape_of c.in_ok-returns.returns ≡ starred c.args.head.now.pointers.items (shape_of c.args.base) = first_of (cc, search rules) in
    let some : c.is_some.result ≡ is_some (option_copied c.args.body) = c.is_some.ensures ∙ still_some _ c.args.body in
    let ok : true ≡ may_be_function (filed_of c.args.filed) c.is_some.result (shape_of c.in_ok-returns.returns)
    (meaning_here c.args.head.now.name (filed_of c.args.filed).known) = first_of (search rules, cc) in
    subst (λ v. Answers filed_of v c.resulted.result)
    (sym (result_taken d (option_copied c.args.body) f (shape_of c.args.base) result c.is_some.result is some ok)) c.resulted.ensures
