use Rattle.std.proofs.Common.{rules, ◌≡◌, to_z, of_z, subst, sym}
use Rattle.std.specs.Prelude.{ℤ, pos, ◌-ℤ◌, ◌*ℤ◌}
use Rattle.std.specs.Int.{w128}
use Rattle.cs_types.specs.IntType.{InRange, modulus_of}
use Rattle.cs_types.specs.Wrap.{wrap_quotient}
use Rattle.cs_types.proofs.Wrapping.{wrapped-InRange}
use Rattle.cs_types.proofs.arithmetic.quotient.Goals as goal

pub returns-clause-comes_into_range : goal.returns-clause-comes_into_range
returns-clause-comes_into_range c =
    let value : to_z w128 (of_z w128 c.turns.result) ≡ wrap_quotient c.args.model c.args.ty c.args.number = search rules in
    subst (λ (q : ℤ). InRange c.args.model c.args.ty (c.args.number -ℤ q *ℤ pos (modulus_of c.args.model c.args.ty))) (sym value)
    (wrapped-InRange c.args.model c.args.ty c.args.number)
