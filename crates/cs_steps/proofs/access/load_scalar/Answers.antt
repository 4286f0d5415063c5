use Rattle.std.proofs.Common.{◌≡◌, ap, sym, ◌∙◌}
use Rattle.cs_progress.proofs.Extending.{extends_on}
use Rattle.cs_operators.proofs.Using.{is_unset, set_else}
use Rattle.cs_steps.proofs.Loading.{set_part, middle_checked, check_waits, scalar_done}
use Rattle.cs_steps.proofs.access.load_scalar.Goals as goal
use Rattle.cs_steps.proofs.access.load_scalar.Goals.{in-Unset, in_default}

pub returns-in_err-check-clause-local : goal.returns-in_err-check-clause-local
returns-in_err-check-clause-local g c = λ every program names known extends once alone local.
    let state = c.args.state.now in
    let at = c.args.at in
    let reached = c.args.reached in
    let value = c.in_ok-value.value in
    let unset : c.match-matches.matches ≡ is_unset value = elim c.match-matches.branch [
      | in-Unset w ↦ w.matches-is ∙ sym (ap is_unset w.in-Unset.is)
      | in_default w ↦ w.matches-is ∙ sym (set_else value w.in_default.not-Unset)
    ] in
    let (is, same) = c.in_ok-value.ensures.local names _ _ (extends_on _ _ _ c.in_ok-value.ensures.extends extends) local
    (alone.filled reached.base reached.offset) in
    check_waits program names known state alone once at reached local value is c.read.new.state same _ _ c.from_residual-in_err-check.result
    c.in_err-check.field-0.0 c.from_residual-in_err-check.ensures
    (c.in_err-check.ensures.act every names.bases (set_part program names known state alone once at reached local value is)
    (middle_checked program names known state alone once at reached local value is c.read.new.state same c.match-matches.matches unset))

pub returns-clause-local : goal.returns-clause-local
returns-clause-local g c = λ every program names known extends once alone local.
    let state = c.args.state.now in
    let at = c.args.at in
    let reached = c.args.reached in
    let value = c.in_ok-value.value in
    let unset : c.match-matches.matches ≡ is_unset value = elim c.match-matches.branch [
      | in-Unset w ↦ w.matches-is ∙ sym (ap is_unset w.in-Unset.is)
      | in_default w ↦ w.matches-is ∙ sym (set_else value w.in_default.not-Unset)
    ] in
    let (is, same) = c.in_ok-value.ensures.local names _ _ (extends_on _ _ _ c.in_ok-value.ensures.extends extends) local
    (alone.filled reached.base reached.offset) in
    scalar_done program names known state alone once at reached local value is c.read.new.state same _ _ c.in_ok-check.field-0
    (c.in_ok-check.ensures.act every names.bases (set_part program names known state alone once at reached local value is)
    (middle_checked program names known state alone once at reached local value is c.read.new.state same c.match-matches.matches unset))
