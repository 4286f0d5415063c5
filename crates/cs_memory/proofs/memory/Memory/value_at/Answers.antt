use Rattle.std.proofs.Common.{◌≡◌, Err, rules}
use Rattle.cs_memory.proofs.memory.Memory.value_at.Goals as goal

pub returns-in_err-operand-in-Struct-clause-err : goal.returns-in_err-operand-in-Struct-clause-err
returns-in_err-operand-in-Struct-clause-err c =
    let there : c.from_residual.result ≡ Err c.in_err-operand-in-Struct.field-0.0 = search rules in
    rw (there, c.in-Struct.is) (rw c.in-Struct.is at c.in_err-operand-in-Struct.ensures.err)

pub returns-in_ok-operand-in-Struct-clause-ok : goal.returns-in_ok-operand-in-Struct-clause-ok
returns-in_ok-operand-in-Struct-clause-ok c = rw c.in-Struct.is (rw c.in-Struct.is at c.in_ok-operand-in-Struct.ensures.ok)

pub returns-in-Void-clause-ok : goal.returns-in-Void-clause-ok
returns-in-Void-clause-ok c = rw c.in-Void.is c.scalar_value.ensures.ok

pub returns-in-Void-clause-err : goal.returns-in-Void-clause-err
returns-in-Void-clause-err c = rw c.in-Void.is c.scalar_value.ensures.err

pub returns-in-Int-clause-ok : goal.returns-in-Int-clause-ok
returns-in-Int-clause-ok c = rw c.in-Int.is c.scalar_value-in-Int.ensures.ok

pub returns-in-Int-clause-err : goal.returns-in-Int-clause-err
returns-in-Int-clause-err c = rw c.in-Int.is c.scalar_value-in-Int.ensures.err

pub returns-in-Pointer-clause-ok : goal.returns-in-Pointer-clause-ok
returns-in-Pointer-clause-ok c = rw c.in-Pointer.is c.scalar_value-in-Pointer.ensures.ok

pub returns-in-Pointer-clause-err : goal.returns-in-Pointer-clause-err
returns-in-Pointer-clause-err c = rw c.in-Pointer.is c.scalar_value-in-Pointer.ensures.err

pub returns-in-Array-clause-ok : goal.returns-in-Array-clause-ok
returns-in-Array-clause-ok c = rw c.in-Array.is c.scalar_value-in-Array.ensures.ok

pub returns-in-Array-clause-err : goal.returns-in-Array-clause-err
returns-in-Array-clause-err c = rw c.in-Array.is c.scalar_value-in-Array.ensures.err
