use Rattle.std.proofs.Common.{◌≡◌, Err, rules}
use Rattle.cs_meaning.specs.Machine.{Whole}
use Rattle.cs_memory.proofs.memory.Memory.struct_value.Goals as goal

pub returns-in_err-cells-clause-err : goal.returns-in_err-cells-clause-err
returns-in_err-cells-clause-err c =
    let there : c.from_residual-in_err-cells.result ≡ Err c.in_err-cells.field-0.0 = search rules in
    let ends = rw (c.as_slice.ensures, c.in_ok-offsets.ensures) at c.in_err-cells.ensures.err in
    rw there (λ onward. ends (λ after cells. onward after (Whole cells)))

pub returns-clause-ok : goal.returns-clause-ok
returns-clause-ok c =
    let reads = rw (c.as_slice.ensures, c.in_ok-offsets.ensures) at c.in_ok-cells.ensures.ok in
    λ onward. reads (λ after cells. onward after (Whole cells))
