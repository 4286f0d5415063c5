use Rattle.std.proofs.Common.{arith}
use Rattle.std.proofs.lemmas.Int.{ints, to_z-of_z}
use Rattle.cs_types.proofs.Wrapping.{wrapped-rest}
use Rattle.cs_types.proofs.arithmetic.rest.Goals as goal

pub returns-clause-value : goal.returns-clause-value
returns-clause-value c = grind (arith, ints, to_z-of_z, wrapped-rest c.args.model c.args.ty c.args.number)
