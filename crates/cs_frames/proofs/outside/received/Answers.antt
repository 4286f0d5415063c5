use Rattle.std.proofs.Common.{◌≡◌, Err, rules}
use Rattle.cs_meaning.specs.Machine.{Scalar}
use Rattle.cs_frames.proofs.outside.received.Goals as goal

pub returns-in_err-cell-clause-err : goal.returns-in_err-cell-clause-err
returns-in_err-cell-clause-err c =
    let there : c.from_residual.result ≡ Err c.in_err-cell.field-0.0 = search rules in
    let known = rw c.root_path-path.ensures at c.in_err-cell.ensures.err in
    rw there (λ onward. known (λ after cell. onward after (Scalar cell)))

pub returns-clause-ok : goal.returns-clause-ok
returns-clause-ok c =
    let known = rw c.root_path-path.ensures at c.in_ok-cell.ensures.ok in
    λ onward. known (λ after cell. onward after (Scalar cell))
