use Rattle.std.proofs.Common.{◌≡◌, take}
use Rattle.cs_constraints.specs.Sets.{keyed}
use Rattle.cs_constraints.proofs.constraints.keyed.Given as goal

abbrev pub invariant-loop-sym : goal.invariant-loop-sym
invariant-loop-sym l = l.entries.items ≡ keyed (take l.sym-index l.syms) l.set
