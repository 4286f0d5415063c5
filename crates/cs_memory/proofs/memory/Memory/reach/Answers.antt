use Rattle.std.proofs.Common.{◌≡◌, Err, FitsSigned, rules}
use Rattle.std.proofs.lemmas.Int.{to_z-of_z}
use Rattle.std.specs.Int.{w128}
use Rattle.cs_values.specs.View.{object_of}
use Rattle.cs_run_log.proofs.Chains.{ends_following}
use Rattle.cs_memory.proofs.memory.Memory.reach.Goals as goal

pub returns-in_err-number-in-Pointer-clause-err : goal.returns-in_err-number-in-Pointer-clause-err
returns-in_err-number-in-Pointer-clause-err c =
    let there : c.from_residual-in_err-number-in-Pointer.result ≡ Err c.in_err-number-in-Pointer.field-0.0 = search rules in
    let fits : FitsSigned w128 c.in-Pointer.offset = search rules in
    let plain = to_z-of_z w128 c.in-Pointer.offset fits in
    let ends = rw plain at c.in_err-number-in-Pointer.ensures.err in
    rw (there, c.in-Pointer.is) (λ onward. ends_following _ _ (c.in_ok-show-in-Pointer.ensures.ok _) (ends (λ n. onward (object_of c.in-Pointer.object) n)))
