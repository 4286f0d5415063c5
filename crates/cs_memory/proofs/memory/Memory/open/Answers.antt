use Rattle.std.proofs.Common.{refl}
use Rattle.cs_memory.proofs.memory.Memory.open.Goals as goal

pub returns-in-Of-clause-memory : goal.returns-in-Of-clause-memory
returns-in-Of-clause-memory c = rw c.in-Of.is c.open_type.ensures.memory

pub returns-in-Integer-clause-memory : goal.returns-in-Integer-clause-memory
returns-in-Integer-clause-memory c = rw c.in-Integer.is refl

pub returns-in-Text-clause-memory : goal.returns-in-Text-clause-memory
returns-in-Text-clause-memory c = rw c.in-Text.is refl

pub returns-in-Void-clause-memory : goal.returns-in-Void-clause-memory
returns-in-Void-clause-memory c = rw c.in-Void.is refl
