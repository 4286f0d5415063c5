use Rattle.std.proofs.Common.{rules, ◌≡◌, to_z, of_z, ◌≤◌, subst, sym}
use Rattle.std.specs.Prelude.{ℤ, unsigned_abs, ◌^◌}
use Rattle.std.specs.Int.{w128}
use Rattle.cs_types.specs.Wrap.{wrap_quotient}
use Rattle.cs_types.proofs.Wrapping.{wrap_quotient-small}
use Rattle.cs_types.proofs.arithmetic.turns.Goals as goal

pub returns-clause-small : goal.returns-clause-small
returns-clause-small c =
    let value : to_z w128 (of_z w128 c.div_euclid.result) ≡ wrap_quotient c.args.model c.args.ty c.args.number = search rules in
    subst (λ (q : ℤ). unsigned_abs q ≤ 2 ^ 119) (sym value) (wrap_quotient-small c.args.model c.args.ty c.args.number c.requires)
