use Rattle.std.proofs.Common.{◌≡◌, Err, rules}
use Rattle.cs_memory.proofs.memory.Memory.read.Goals as goal

pub returns-in_err-cell-clause-err : goal.returns-in_err-cell-clause-err
returns-in_err-cell-clause-err c =
    let there : c.from_residual-in_err-cell.result ≡ Err c.in_err-cell.field-0.0 = search rules in
    rw there (rw c.in_ok-found.ensures at c.in_err-cell.ensures.err)

pub returns-clause-ok : goal.returns-clause-ok
returns-clause-ok c = rw c.in_ok-found.ensures at c.in_ok-cell.ensures.ok
