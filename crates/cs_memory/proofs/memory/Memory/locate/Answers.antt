use Rattle.std.proofs.Common.{◌≡◌, Err, false, rules}
use Rattle.cs_memory.proofs.memory.Memory.locate.Goals as goal

pub returns-in_err-found-2-clause-err : goal.returns-in_err-found-2-clause-err
returns-in_err-found-2-clause-err c =
    let there : c.from_residual-in_err-found-2.result ≡ Err c.in_err-found-2.field-0.0 = search rules in
    let checked : c.args.access.direct ≡ false = search rules in
    rw (there, checked) c.in_err-found-2.ensures.err
