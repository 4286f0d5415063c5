use Rattle.std.proofs.Common.{◌≡◌, rules, Err, refl, sym, subst}
use Rattle.cs_ast.specs.declared.raw.external.RawExternal.{RawExternal}
use Rattle.cs_scopes.specs.Verdicts.{Verdict, Answers}
use Rattle.cs_declarations.proofs.FoldedSoFar.{GoesOver, part_taken, part_stops}
use Rattle.cs_file_scope.specs.Objects.{Filed}
use Rattle.cs_file_scope.specs.View.{filed_of}
use Rattle.cs_typing.specs.Files.{external_typed, file_typed}
use Rattle.cs_typing.proofs.file.with_externals.Goals as goal

abbrev part_typed : RawExternal → Filed → Verdict Filed
part_typed e f = external_typed e.place e.kind f

parts_over : GoesOver file_typed part_typed
parts_over = (λ es e f. refl, λ f. refl)

pub returns-in_err-filed : goal.returns-in_err-filed
returns-in_err-filed c =
    let whole = file_typed c.args.file.now (filed_of c.args.before) in
    let e : c.from_residual.result ≡ Err c.in_err-filed.field-0.0 = search rules in
    subst (Answers filed_of whole) (sym e)
    (part_stops file_typed part_typed parts_over c.args.file.now c.loop-external.external-index c.external-item.result whole (filed_of c.loop-external.filed)
    c.in_err-filed.field-0.0 c.loop-external-test.true c.external-item.is c.loop-external.invariant c.in_err-filed.ensures)

pub loop-external-preserved : goal.loop-external-preserved
loop-external-preserved c =
    let whole = file_typed c.args.file.now (filed_of c.args.before) in
    part_taken file_typed part_typed parts_over c.args.file.now c.loop-external.external-index c.external-item.result whole (filed_of c.loop-external.filed)
    (filed_of c.in_ok-filed.filed) c.loop-external-test.true c.external-item.is c.loop-external.invariant c.in_ok-filed.ensures
