use Rattle.std.proofs.Common.{◌≡◌, ◌+ℤ◌, pos, to_z, of_z, ap, ◌∙◌, rules}
use Rattle.std.specs.Int.{w128}
use Rattle.cs_terms.specs.Term.{value_of}
use Rattle.cs_events.specs.Objects.{UnsetCell}
use Rattle.cs_meaning.specs.Access as access
use Rattle.cs_meaning.specs.Operators as operators
use Rattle.cs_progress.proofs.Looks.{leads_same}
use Rattle.cs_progress.proofs.Composing.{leads_on, waits_on}
use Rattle.cs_progress.proofs.Carrying.{handed}
use Rattle.cs_operators.specs.Pointing.{cell_in}
use Rattle.cs_operators.proofs.SeenPointers.{no_member, member_at}
use Rattle.cs_operators.proofs.pointers.arrow.Goals as goal

pub returns-in_err-not_null-clause-act : goal.returns-in_err-not_null-clause-act
returns-in_err-not_null-clause-act g c = λ every bases named.
    let state = c.args.state.now in
    let at = c.args.at in
    let cell = cell_in bases state c.args.value in
    let checks = c.in_err-not_null.ensures.act every bases cell (record {
      named = c.in_ok-seen.ensures.named bases named;
      seen_is = c.in_ok-seen.ensures.seen bases;
    }) in
    handed state bases _ _ c.from_residual-in_err-not_null.result (λ v. operators.arrow at (cell v) c.args.bytes) (cell_in bases state)
    c.in_err-not_null.field-0.0 c.from_residual-in_err-not_null.ensures
    (λ waits onward cells v fits.
    let rest = onward (operators.pointed (cell v) c.args.bytes) in
    let checked = access.not_null at (cell v) rest in
    waits_on cells _ _ (access.look at (cell v) checked) checked bases _ v _
    (c.in_ok-seen.ensures.through bases named cells v fits checked) (checks.waits waits rest cells v fits))

pub returns-in_ok-shifted-in-At-clause-act : goal.returns-in_ok-shifted-in-At-clause-act
returns-in_ok-shifted-in-At-clause-act g c = λ every bases named.
    let state = c.args.state.now in
    let at = c.args.at in
    let cell = cell_in bases state c.args.value in
    let checks = c.in_ok-not_null.ensures.act every bases cell (record {
      named = c.in_ok-seen.ensures.named bases named;
      seen_is = c.in_ok-seen.ensures.seen bases;
    }) in
    record {
      through = λ cells v fits onward.
          let rest = onward (operators.pointed (cell v) c.args.bytes) in
          let checked = access.not_null at (cell v) rest in
          let by : to_z w128 (of_z w128 c.from.result) ≡ pos c.args.bytes = search rules in
          let there = rw c.in-At.is at c.in_ok-seen.ensures.seen bases v fits in
          let member = ap (λ p. operators.pointed p c.args.bytes) there
          ∙ member_at _ (value_of v c.in-At.offset) _ c.args.bytes (c.in_ok-shifted-in-At.ensures.value v
          ∙ ap (λ n. value_of v c.in-At.offset +ℤ n) by) in
          leads_on cells _ _ _ (access.look at (cell v) checked) checked _ (c.in_ok-seen.ensures.through bases named cells v fits checked)
          (leads_on cells _ _ _ checked rest _ (checks.through cells v fits rest) (leads_same cells _ rest _ (ap onward member)));
      waits = tt;
    }

pub returns-in-Other-clause-act : goal.returns-in-Other-clause-act
returns-in-Other-clause-act g c = λ every bases named.
    let state = c.args.state.now in
    let at = c.args.at in
    let cell = cell_in bases state c.args.value in
    let checks = c.in_ok-not_null.ensures.act every bases cell (record {
      named = c.in_ok-seen.ensures.named bases named;
      seen_is = c.in_ok-seen.ensures.seen bases;
    }) in
    record {
      through = λ cells v fits onward.
          let rest = onward (operators.pointed (cell v) c.args.bytes) in
          let checked = access.not_null at (cell v) rest in
          let none = rw c.in-Other.is at c.in_ok-seen.ensures.seen bases v fits in
          leads_on cells _ _ _ (access.look at (cell v) checked) checked _ (c.in_ok-seen.ensures.through bases named cells v fits checked)
          (leads_on cells _ _ _ checked rest (onward UnsetCell) (checks.through cells v fits rest)
          (leads_same cells _ rest _ (ap onward (no_member (cell v) c.args.bytes none))));
      waits = tt;
    }
