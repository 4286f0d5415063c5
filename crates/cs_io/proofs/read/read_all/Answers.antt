-- What the last call consumed came after the bytes that were gathered before.
use Rattle.std.proofs.Common.{rules}
use Rattle.cs_io.proofs.Taken.{LosesFront-from_both}
use Rattle.cs_io.proofs.read.read_all.Goals as goal

pub returns-in_err-read_more-clause-err : goal.returns-in_err-read_more-clause-err
returns-in_err-read_more-clause-err g c =
    let lost = LosesFront-from_both _ _ _ c.loop-bytes.bytes.items c.loop-bytes.invariant.takes_next c.in_err-read_more.ensures.loses_front in search rules
