use Rattle.std.proofs.Common.{ap, ◌∙◌}
use Rattle.std.proofs.lemmas.Result.{IfOk-weaker}
use Rattle.cs_meaning.specs.Initials as cells
use Rattle.cs_terms.specs.declared.term.Lin.{Lin}
use Rattle.cs_progress.specs.Locals.{MayBeIn, IsOverKnown}
use Rattle.cs_progress.specs.Operands.{IsNumberOf, IsNumberAt}
use Rattle.cs_progress.proofs.operands.number.Goals as goal

pub returns-clause-value : goal.returns-clause-value
returns-clause-value c =
    let state = c.args.state.now in
    IfOk-weaker {X = Lin} _ (IsNumberOf state c.in_ok-value.value) (IsNumberAt state c.args.age)
    (λ (term : Lin). λ is. λ code names program v fits.
    ap cells.number_in (c.in_ok-value.ensures.value code names program v) ∙ is names.bases v fits)
    c.number_in.ensures.value

pub returns-clause-over : goal.returns-clause-over
returns-clause-over c =
    let state = c.args.state.now in
    IfOk-weaker {X = Lin} c.number_in.result (λ term. MayBeIn state c.in_ok-value.value → IsOverKnown state term) (IsOverKnown state)
    (λ (term : Lin). λ over. over c.in_ok-value.ensures.within) c.number_in.ensures.over
