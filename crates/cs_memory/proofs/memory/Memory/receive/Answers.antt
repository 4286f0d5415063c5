use Rattle.std.proofs.Common.{◌≡◌, Err, rules}
use Rattle.cs_memory.proofs.memory.Memory.receive.Goals as goal

pub returns-in_err-cell-in-Unknown-clause-err : goal.returns-in_err-cell-in-Unknown-clause-err
returns-in_err-cell-in-Unknown-clause-err c =
    let there : c.from_residual.result ≡ Err c.in_err-cell-in-Unknown.field-0.0 = search rules in
    rw (there, c.in-Unknown.is) c.in_err-cell-in-Unknown.ensures.err

pub returns-in_ok-cell-in-Unknown-clause-ok : goal.returns-in_ok-cell-in-Unknown-clause-ok
returns-in_ok-cell-in-Unknown-clause-ok c = rw c.in-Unknown.is c.in_ok-cell-in-Unknown.ensures.ok
