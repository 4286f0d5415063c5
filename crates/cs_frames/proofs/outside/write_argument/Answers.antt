use Rattle.cs_frames.proofs.outside.write_argument.Goals as goal

pub returns-in-Scalar-clause-ok : goal.returns-in-Scalar-clause-ok
returns-in-Scalar-clause-ok c = rw c.in-Scalar.is c.write_through.ensures.ok

pub returns-in-Scalar-clause-err : goal.returns-in-Scalar-clause-err
returns-in-Scalar-clause-err c = rw c.in-Scalar.is c.write_through.ensures.err
