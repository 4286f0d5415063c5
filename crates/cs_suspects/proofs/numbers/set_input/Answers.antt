use Rattle.std.proofs.Common.{rules, ◌≡◌, sym, ap, ◌∙◌, subst, to_z, of_z}
use Rattle.std.specs.Int.{w128}
use Rattle.cs_terms.specs.declared.symbol.SymName.{SymName}
use Rattle.cs_terms.specs.declared.symbol.SymName.TheVariants.{Input}
use Rattle.cs_suspects.specs.Solved.{IsPut}
use Rattle.cs_suspects.proofs.InputNumbers.{put_number}
use Rattle.cs_suspects.proofs.numbers.set_input.Goals as goal

pub returns-in_ok-set-in-Input : goal.returns-in_ok-set-in-Input
returns-in_ok-set-in-Input c =
    let copied = c.in_ok-copy-in-Input.field-0 in
    let same : to_z w128 (of_z w128 c.args.number) ≡ c.args.number = search rules in
    let is : Input copied ≡ c.args.name.now = ap Input c.in_ok-copy-in-Input.ensures ∙ sym c.in-Input.is in
    subst (λ (name : SymName). IsPut name c.args.number c.args.inputs.now c.set.new.self) is
    (put_number copied c.args.number c.args.inputs.now c.set.new.self (c.in_ok-set-in-Input.ensures.here ∙ same) c.in_ok-set-in-Input.ensures.elsewhere)
