use Rattle.std.proofs.Common.{rules, ◌≡◌, ◌<◌, ◌+◌, length, take, sym, ap, ◌∙◌, subst, to_z, of_z, arith}
use Rattle.std.specs.Int.{w128}
use Rattle.std.specs.Option.{option_copied}
use Rattle.std.specs.Prelude.{Some, None, slice_get}
use Rattle.std.proofs.lemmas.List.{length-map}
use Rattle.cs_terms.specs.declared.symbol.SymName.{SymName}
use Rattle.cs_terms.proofs.Names.{eq, eq-laws, eq-true}
use Rattle.cs_terms.proofs.Numbering.{once_from_distinct}
use Rattle.cs_state.specs.Naming.{naming}
use Rattle.cs_suspects.specs.Solved.{AreInputsOf}
use Rattle.cs_suspects.proofs.InputNumbers.{put_next, not_there}
use Rattle.cs_suspects.proofs.numbers.inputs_of.Goals.{in-Some+in_ok-set_input, in_default}
use Rattle.cs_suspects.proofs.numbers.inputs_of.Goals as goal

pub loop-place-preserved : goal.loop-place-preserved
loop-place-preserved c =
    let syms = (naming c.args.tables.now).syms in
    let sets = c.args.state.now.constraints in
    let once = once_from_distinct eq eq-laws eq-true syms c.len-place-end.ensures.unique in
    elim c.match-name.branch [
      | in-Some+in_ok-set_input w ↦
          let same : to_z w128 (of_z w128 w.number_of.result) ≡ w.number_of.result = search rules in
          let there : slice_get syms c.loop-place.place ≡ Some w.in-Some.name.now = sym c.name.ensures ∙ ap option_copied w.in-Some.is in
          subst (AreInputsOf sets (take (c.loop-place.place + 1) syms)) (sym w.inputs-is)
          (put_next sets syms c.loop-place.place w.in-Some.name.now (to_z w128 (of_z w128 w.number_of.result)) c.loop-place.inputs
          w.set_input.new.inputs once there (λ v solution. same ∙ w.number_of.ensures v solution) w.in_ok-set_input.ensures c.loop-place.invariant)
      | in_default w ↦
          let none : slice_get syms c.loop-place.place ≡ None = sym c.name.ensures ∙ ap option_copied w.in_default.is in
          let within : c.loop-place.place < length syms =
          omega (arith, length-map c.args.tables.now.syms.names.entries (λ (entry : SymName × Unit {0}). entry.0)) in
          absurd (not_there syms c.loop-place.place none within)
    ]
