use Rattle.cs_model.specs.declared.kind.Kind.TheVariants as kind
use Rattle.cs_events.specs.declared.outcome.Outcome.TheVariants.{Fault}
use Rattle.cs_events.specs.Objects.{PointerCell}
use Rattle.cs_events.specs.Acts.{Stops}
use Rattle.cs_meaning.specs.Access as access
use Rattle.cs_progress.proofs.Looks.{leads_same}
use Rattle.cs_progress.proofs.Composing.{waits_on}
use Rattle.cs_progress.proofs.Carrying.{handed}
use Rattle.cs_operators.specs.Pointing.{cell_at}
use Rattle.cs_operators.proofs.Checks.{unset_check}
use Rattle.cs_operators.proofs.SeenPointers.{names_nothing}
use Rattle.cs_operators.proofs.pointers.named.Goals as goal

pub returns-in_err-check-in-Other-clause-act : goal.returns-in_err-check-in-Other-clause-act
returns-in_err-check-in-Other-clause-act g c = λ every bases cell sees.
    let at = c.args.at in
    let stops = c.in_err-check-in-Other.ensures.act every bases (λ v act. Stops (Fault kind.Unset at)) (λ v fits. unset_check at v) in
    handed c.args.state.now bases _ _ c.from_residual.result
    (λ v onward. access.named at (cell v) (λ object offset. onward (PointerCell object offset))) (cell_at bases)
    c.in_err-check-in-Other.field-0.0 c.from_residual.ensures
    (λ waits onward cells v fits.
    let nothing = rw c.in-Other.is at sees.seen_is v fits in
    let same = names_nothing (cell v) at (λ object offset. onward (PointerCell object offset)) nothing in
    waits_on cells _ _ _ (Stops (Fault kind.Unset at)) bases _ v _ (leads_same cells _ _ _ same)
    (stops.waits waits (Stops (Fault kind.Unset at)) cells v fits))
