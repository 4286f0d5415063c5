use Rattle.std.proofs.Common.{arith}
use Rattle.std.proofs.lemmas.Int.{to_z-of_z}
use Rattle.cs_values.proofs.Numbers.{bits_are_rest}
use Rattle.cs_values.proofs.arithmetic.bits.Goals as goal

pub returns : goal.returns
returns c = grind (arith, to_z-of_z, bits_are_rest c.args.model c.args.ty c.args.number)
