use Rattle.std.proofs.Common.{refl, subst}
use Rattle.std.proofs.lemmas.Result.{IfOk-weaker}
use Rattle.cs_types.specs.Shape.{shape_of}
use Rattle.cs_types.specs.declared.data_model.DataModel.{DataModel}
use Rattle.cs_terms.specs.Term.{value_of}
use Rattle.cs_meaning.specs.Types as types
use Rattle.cs_progress.specs.Acting.{CarriesOut}
use Rattle.cs_progress.specs.Locals.{IsOverKnown}
use Rattle.cs_progress.proofs.Carrying.{handed}
use Rattle.cs_steps.proofs.Updating.{updates, update_stands, update_carries}
use Rattle.cs_steps.proofs.updates.updated.Goals as goal

pub returns-in_err-result-clause-act : goal.returns-in_err-result-clause-act
returns-in_err-result-clause-act g c = λ every code names program.
    let state = c.args.state.now in
    let at = c.args.at in
    let object = types.integer_of (shape_of c.args.object.now) in
    let earlier = c.args.attempt.now.progress in
    let later = c.operate.new.attempt.progress in
    let left = c.in_ok-number.field-0 in
    let right = c.in_ok-number-2.field-0 in
    subst (λ (model : DataModel). CarriesOut names.bases state earlier later c.from_residual-in_err-result.result
    (updates code names program state model at c.args.how.0 c.args.how.1 object) (λ made v. value_of v made)) c.model-model.ensures
    (handed state names.bases earlier later c.from_residual-in_err-result.result
    (updates code names program state c.model-model.result at c.args.how.0 c.args.how.1 object) (λ made v. value_of v made)
    c.in_err-result.field-0.0 c.from_residual-in_err-result.ensures
    (λ waits. update_stands code names program state c.model-model.result at c.args.how.0 c.args.how.1 object left right
    c.in_ok-number.ensures.value c.in_ok-number-2.ensures.value _ _ ((c.in_err-result.ensures.act every names.bases).waits waits)))

pub returns-clause-act : goal.returns-clause-act
returns-clause-act g c = λ every code names program.
    let state = c.args.state.now in
    let at = c.args.at in
    let object = types.integer_of (shape_of c.args.object.now) in
    let earlier = c.args.attempt.now.progress in
    let middle = c.operate.new.attempt.progress in
    let later = c.convert_number.new.progress in
    let left = c.in_ok-number.field-0 in
    let right = c.in_ok-number-2.field-0 in
    subst (λ (model : DataModel). CarriesOut names.bases state earlier later c.convert_number.result
    (updates code names program state model at c.args.how.0 c.args.how.1 object) (λ made v. value_of v made)) c.model-model.ensures
    (update_carries code names program state c.model-model.result at c.args.how.0 c.args.how.1 object left right
    c.in_ok-number.ensures.value c.in_ok-number-2.ensures.value earlier middle later c.in_ok-result.result c.convert_number.result _ _ refl c.integer_of.ensures
    (c.in_ok-result.ensures.act every names.bases).through (c.convert_number.ensures.act names.bases))

pub returns-clause-over : goal.returns-clause-over
returns-clause-over g c =
    let state = c.args.state.now in
    IfOk-weaker c.convert_number.result (λ made. IsOverKnown state c.in_ok-result.result → IsOverKnown state made) (IsOverKnown state)
    (λ made over. over c.in_ok-result.ensures.over) c.convert_number.ensures.over
