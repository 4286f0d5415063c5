use Rattle.std.proofs.Common.{◌≡◌, ℕ, Bool, List, Some, true, ◌<◌, length, slice_get, Contains, get_or, sym, ap, subst, ◌∙◌, arith}
use Rattle.std.proofs.lemmas.Option.{slice_get-get_or}
use Rattle.cs_regions.specs.declared.base.Base.TheVariants.{Local}
use Rattle.cs_state.specs.declared.state.State.{State}
use Rattle.cs_state.specs.Writes.{IsLeft}
use Rattle.cs_store.specs.declared.value.Fill.TheVariants.{Unset}
use Rattle.cs_store.specs.declared.value.Binding.TheVariants.{Fill}
use Rattle.cs_store.specs.Held.{held}
use Rattle.cs_progress.proofs.Lists.{item_is_there}
use Rattle.cs_progress.proofs.leaving.leave.Goals as goal

pub returns-clause-unset : goal.returns-clause-unset
returns-clause-unset c = λ function there declaration base offset within is.
    let frame = c.args.state.now.frame.number in
    let numbers = c.in_ok-bases.bases.items in
    let locals = c.in_ok-bases.ensures.locals function there in
    let early : declaration < length numbers = subst (λ (n : ℕ). declaration < n) (sym locals.as_many) within in
    let place : slice_get numbers declaration ≡ Some (get_or numbers declaration 0) = slice_get-get_or numbers declaration 0 early in
    let own = locals.each declaration (get_or numbers declaration 0) place in
    let same : get_or numbers declaration 0 ≡ base =
    locals.once (omega (arith, within)) (Local frame declaration) (get_or numbers declaration 0) base own is in
    let listed : Contains numbers base = item_is_there numbers declaration base (place ∙ ap (λ (n : ℕ). Some n) same) in
    let given : c.deref.result.now ≡ numbers = c.deref.ensures.value in
    let dropped : held c.unbind.new.self.store base offset ≡ Fill Unset =
    c.in_ok-unbind.ensures.dropped base offset (subst (λ (ns : List ℕ). Contains ns base) (sym given) listed) in
    let left : IsLeft true c.unbind.new.self c.leave.new.self =
    subst (λ (b : Bool). IsLeft b c.unbind.new.self c.leave.new.self) c.if-not-branch.false c.in_ok-leave.ensures.ok in
    ap (λ (s : State). held s.store base offset) c.in_ok-push.ensures.ok ∙ ap (λ (s : State). held s.store base offset) left.2 ∙ dropped
