use Rattle.std.proofs.Common.{◌≡◌, Err, FitsSigned, rules}
use Rattle.std.proofs.lemmas.Int.{to_z-of_z}
use Rattle.std.specs.Int.{w128}
use Rattle.cs_run_log.proofs.logs.Log.sum.Goals as goal

pub returns-in_err-offset-in-Pointer-clause-err : goal.returns-in_err-offset-in-Pointer-clause-err
returns-in_err-offset-in-Pointer-clause-err c =
    let there : c.from_residual-in_err-offset-in-Pointer.result ≡ Err c.in_err-offset-in-Pointer.field-0.0 = search rules in
    let fits : FitsSigned w128 c.in-Pointer.offset = search rules in
    let ends = rw (to_z-of_z w128 c.in-Pointer.offset fits) at c.in_err-offset-in-Pointer.ensures.err in
    rw (there, c.in-Pointer.is) (λ onward. ends _)
