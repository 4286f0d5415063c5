use Rattle.std.proofs.Common.{◌≡◌, Err, FitsSigned, sym, rules}
use Rattle.std.proofs.lemmas.Int.{to_z-of_z}
use Rattle.std.specs.Int.{w128}
use Rattle.cs_memory.proofs.memory.Memory.reach_in.Goals as goal

pub returns-in_err-number-in-Some-clause-err : goal.returns-in_err-number-in-Some-clause-err
returns-in_err-number-in-Some-clause-err c =
    let there : c.from_residual.result ≡ Err c.in_err-number-in-Some.field-0.0 = search rules in
    let fits : FitsSigned w128 c.args.offset = search rules in
    let plain = to_z-of_z w128 c.args.offset fits in
    let ends = rw plain at c.in_err-number-in-Some.ensures.err in
    rw (there, sym c.in-Some.ensures) ends
