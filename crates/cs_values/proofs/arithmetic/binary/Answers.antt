use Rattle.std.proofs.Common.{arith}
use Rattle.std.proofs.lemmas.Int.{to_z-of_z}
use Rattle.cs_values.proofs.Numbers.{rem_is_rest}
use Rattle.cs_values.proofs.arithmetic.binary.Goals as goal

pub returns-in_ok-checked_rem-in-Rem : goal.returns-in_ok-checked_rem-in-Rem
returns-in_ok-checked_rem-in-Rem c = grind (arith, to_z-of_z, rem_is_rest)
