use Rattle.std.proofs.Common.{refl}
use Rattle.cs_memory.proofs.memory.Memory.open_target.Goals as goal

pub returns-in-Pointer-clause-memory : goal.returns-in-Pointer-clause-memory
returns-in-Pointer-clause-memory c = rw c.in-Pointer.is c.open_block.ensures.memory

pub returns-in-Null-clause-memory : goal.returns-in-Null-clause-memory
returns-in-Null-clause-memory c = rw c.in-Null.is refl

pub returns-in-Number-clause-memory : goal.returns-in-Number-clause-memory
returns-in-Number-clause-memory c = rw c.in-Number.is refl

pub returns-in-Unset-clause-memory : goal.returns-in-Unset-clause-memory
returns-in-Unset-clause-memory c = rw c.in-Unset.is refl
