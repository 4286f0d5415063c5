use Rattle.std.proofs.Common.{ℤ, refl, sym, ap, ◌∙◌}
use Rattle.cs_types.specs.Shape.{shape_of, integer, void}
use Rattle.cs_terms.specs.Term.{Valuation, value_of}
use Rattle.cs_events.specs.Acts.{Act, Goes}
use Rattle.cs_meaning.specs.Machine as machine
use Rattle.cs_meaning.specs.Operators as operators
use Rattle.cs_cfg.specs.Graph as graph
use Rattle.cs_cfg.specs.Working.{CodeState, do_work}
use Rattle.cs_state.specs.declared.temporary.Temporary.TheVariants as temporary
use Rattle.cs_store.specs.declared.value.Value.TheVariants as value
use Rattle.cs_progress.proofs.Looks.{leads_same}
use Rattle.cs_operators.proofs.Computed.{stands, number_left, replaced, waited, part_leads, part_waits}
use Rattle.cs_operators.proofs.Converting.{same_again, kept, is_converted}
use Rattle.cs_progress.proofs.KeptLocals.{replaced_stays, replaced_keeps, never_waits}
use Rattle.cs_operators.proofs.computing.convert.Goals as goal

pub returns-then-not-is_number-clause-act : goal.returns-then-not-is_number-clause-act
returns-then-not-is_number-clause-act c = λ code names program budgets model.
    let state = c.args.state.now in
    record {
      done = λ todo given v fits.
          let m = stands code names program state todo v in
          let onward : machine.Operand → Act CodeState = λ operand. Goes (machine.push operand (machine.pop m)) in
          let operand_is = c.in_ok-converted.ensures.operand code names program v in
          let from = shape_of c.args.from.now in
          let same = kept program.model c.args.at from c.in-Int.ty names.bases state.blocks v onward c.in_ok-converted.converted.now
          (sym c.is_number.ensures ∙ c.if-not-is_number.true) in
          rw c.in-Int.is (leads_same given _ _ _
          (ap (λ operand. operators.convert program.model c.args.at from (integer c.in-Int.ty) operand onward) operand_is
          ∙ same ∙ ap onward (sym operand_is)
          ∙ ap (λ same. Goes (machine.to_do todo same)) (same_again code names program state v c.in_ok-converted.ensures.there)));
      waits = tt;
    }

pub returns-in_err-after-in-Int-clause-act : goal.returns-in_err-after-in-Int-clause-act
returns-in_err-after-in-Int-clause-act c = λ code names program budgets model.
    let state = c.args.state.now in
    let from = shape_of c.args.from.now in
    let converted = c.in_ok-converted.converted.now in
    let part : Valuation → (ℤ → Act CodeState) → Act CodeState =
    λ v. operators.convert_number c.model-model.result c.args.at from c.in-Int.ty (value_of v c.in_ok-before-in-Int.before) in
    let act = do_work code program budgets c.args.at (graph.Convert from (integer c.in-Int.ty)) in
    let rest = number_left code names program state 1 in
    rw c.in-Int.is (waited code names program state state c.args.progress.now c.convert_number.new.progress
    c.from_residual-in_err-after-in-Int.result act c.in_err-after-in-Int.field-0.0 c.from_residual-in_err-after-in-Int.ensures
    (λ waits todo. part_waits code names program state todo act part (rest todo)
    (λ v fits. is_converted program.model c.model-model.result (model ∙ sym c.model-model.ensures) c.args.at from c.in-Int.ty code names program state todo v
    converted (sym c.is_number.ensures ∙ c.if-not-is_number.false) (c.in_ok-converted.ensures.operand code names program v)
    (value_of v c.in_ok-before-in-Int.before) (c.in_ok-before-in-Int.ensures.value code names program v fits))
    _ _ ((c.in_err-after-in-Int.ensures.act names.bases).waits waits)))

pub returns-in-Void-clause-act : goal.returns-in-Void-clause-act
returns-in-Void-clause-act c = λ code names program budgets model. rw c.in-Void.is (
    replaced code names program c.args.state.now c.replace.new.state c.args.progress.now c.args.progress.now c.replace.result
    (do_work code program budgets c.args.at (graph.Convert (shape_of c.args.from.now) void)) 1 temporary.Nothing
    c.replace.ensures.means c.replace.ensures.memory (λ todo given v fits. leads_same given _ _ _ refl))

pub returns-in_ok-after-in-Int-clause-act : goal.returns-in_ok-after-in-Int-clause-act
returns-in_ok-after-in-Int-clause-act c = λ code names program budgets model.
    let state = c.args.state.now in
    let from = shape_of c.args.from.now in
    let converted = c.in_ok-converted.converted.now in
    let part : Valuation → (ℤ → Act CodeState) → Act CodeState =
    λ v. operators.convert_number c.model-model.result c.args.at from c.in-Int.ty (value_of v c.in_ok-before-in-Int.before) in
    let act = do_work code program budgets c.args.at (graph.Convert from (integer c.in-Int.ty)) in
    let rest = number_left code names program state 1 in
    rw c.in-Int.is (replaced code names program state c.replace-in-Int.new.state c.args.progress.now c.convert_number.new.progress
    c.replace-in-Int.result act 1 (temporary.Scalar (value.Number c.in_ok-after-in-Int.after))
    c.replace-in-Int.ensures.means c.replace-in-Int.ensures.memory
    (λ todo. part_leads code names program state todo act part (rest todo)
    (λ v fits. is_converted program.model c.model-model.result (model ∙ sym c.model-model.ensures) c.args.at from c.in-Int.ty code names program state todo v
    converted (sym c.is_number.ensures ∙ c.if-not-is_number.false) (c.in_ok-converted.ensures.operand code names program v)
    (value_of v c.in_ok-before-in-Int.before) (c.in_ok-before-in-Int.ensures.value code names program v fits))
    _ _ _ (c.in_ok-after-in-Int.ensures.act names.bases).through))

pub returns-in-Void-clause-frame : goal.returns-in-Void-clause-frame
returns-in-Void-clause-frame c = replaced_stays c.replace.result 1 _ _ _ c.replace.ensures.left

pub returns-in-Void-clause-locals : goal.returns-in-Void-clause-locals
returns-in-Void-clause-locals c = replaced_keeps c.replace.result 1 _ _ _ (λ program bases known have. tt) c.replace.ensures.left

pub returns-in-Void-clause-unchanged : goal.returns-in-Void-clause-unchanged
returns-in-Void-clause-unchanged c = never_waits _ _ c.replace.result c.replace.ensures.memory

pub returns-in_ok-after-in-Int-clause-frame : goal.returns-in_ok-after-in-Int-clause-frame
returns-in_ok-after-in-Int-clause-frame c = replaced_stays c.replace-in-Int.result 1 _ _ _ c.replace-in-Int.ensures.left

pub returns-in_ok-after-in-Int-clause-locals : goal.returns-in_ok-after-in-Int-clause-locals
returns-in_ok-after-in-Int-clause-locals c =
    replaced_keeps c.replace-in-Int.result 1 _ _ _ (c.in_ok-after-in-Int.ensures.over c.in_ok-before-in-Int.ensures.over) c.replace-in-Int.ensures.left

pub returns-in_ok-after-in-Int-clause-unchanged : goal.returns-in_ok-after-in-Int-clause-unchanged
returns-in_ok-after-in-Int-clause-unchanged c = never_waits _ _ c.replace-in-Int.result c.replace-in-Int.ensures.memory
