use Rattle.std.proofs.Common.{◌≡◌, Err, FitsSigned, rules}
use Rattle.std.proofs.lemmas.Int.{to_z-of_z}
use Rattle.std.specs.Int.{w128}
use Rattle.cs_events.specs.Objects.{NumberCell}
use Rattle.cs_meaning.specs.Machine.{Scalar}
use Rattle.cs_run_log.proofs.logs.Log.convert_cell.Goals as goal

pub returns-in_err-number-in-Number-clause-err : goal.returns-in_err-number-in-Number-clause-err
returns-in_err-number-in-Number-clause-err c =
    let there : c.from_residual.result ≡ Err c.in_err-number-in-Number.field-0.0 = search rules in
    let fits : FitsSigned w128 c.in-Number.number = search rules in
    let ends = rw (to_z-of_z w128 c.in-Number.number fits) at c.in_err-number-in-Number.ensures.err in
    rw (there, c.in-Number.is) (λ onward. ends (λ number. onward (Scalar (NumberCell number))))

pub returns-in_ok-number-in-Number-clause-ok : goal.returns-in_ok-number-in-Number-clause-ok
returns-in_ok-number-in-Number-clause-ok c =
    let fits : FitsSigned w128 c.in_ok-number-in-Number.number = search rules in
    let given : FitsSigned w128 c.in-Number.number = search rules in
    let converts = rw (to_z-of_z w128 c.in-Number.number given) at c.in_ok-number-in-Number.ensures.ok in
    rw (to_z-of_z w128 c.in_ok-number-in-Number.number fits, c.in-Number.is) (λ onward. converts (λ number. onward (Scalar (NumberCell number))))
