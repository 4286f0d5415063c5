use Rattle.cs_memory.proofs.memory.Memory.look_up.Goals as goal

pub returns-clause-ok : goal.returns-clause-ok
returns-clause-ok c =
    let reads = rw c.input_kind.ensures at c.in_ok-cell.ensures.ok in
    rw c.in_ok-open.ensures.memory (λ onward. reads _)
