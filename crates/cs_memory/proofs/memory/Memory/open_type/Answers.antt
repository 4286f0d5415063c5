use Rattle.std.proofs.Common.{refl}
use Rattle.cs_memory.proofs.memory.Memory.open_type.Goals as goal

pub returns-in-Pointer-clause-memory : goal.returns-in-Pointer-clause-memory
returns-in-Pointer-clause-memory c = rw c.in-Pointer.is (rw c.deref.ensures at c.open_target.ensures.memory)

pub returns-in-Void-clause-memory : goal.returns-in-Void-clause-memory
returns-in-Void-clause-memory c = rw c.in-Void.is refl

pub returns-in-Int-clause-memory : goal.returns-in-Int-clause-memory
returns-in-Int-clause-memory c = rw c.in-Int.is refl

pub returns-in-Array-clause-memory : goal.returns-in-Array-clause-memory
returns-in-Array-clause-memory c = rw c.in-Array.is refl

pub returns-in-Struct-clause-memory : goal.returns-in-Struct-clause-memory
returns-in-Struct-clause-memory c = rw c.in-Struct.is refl
