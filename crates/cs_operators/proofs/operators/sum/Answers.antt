use Rattle.cs_terms.specs.Term.{value_of}
use Rattle.cs_events.specs.Objects.{NullCell}
use Rattle.cs_meaning.specs.Access as access
use Rattle.cs_meaning.specs.Operators as operators
use Rattle.cs_state.specs.Cells.{pointer_to}
use Rattle.std.proofs.Common.{slice_get}
use Rattle.cs_progress.proofs.Looks.{leads_same}
use Rattle.cs_progress.proofs.Composing.{leads_on, waits_on}
use Rattle.cs_progress.proofs.Carrying.{handed}
use Rattle.cs_operators.specs.Pointing.{cell_in}
use Rattle.cs_operators.proofs.Checking.{every_kept}
use Rattle.cs_operators.proofs.Checks.{moved_check, null_check}
use Rattle.cs_operators.proofs.Sums.{after_look, looks_first, moves_null, moves_pointer, moves_nothing}
use Rattle.cs_operators.proofs.operators.sum.Goals as goal

pub returns-in_err-seen-clause-act : goal.returns-in_err-seen-clause-act
returns-in_err-seen-clause-act g c = λ every bases named.
    let state = c.args.state.now in
    let at = c.args.at in
    let model = c.args.context.now.setting.now.program.now.model in
    let cell = cell_in bases state c.args.pointer in
    handed state bases _ _ c.from_residual.result
    (λ v. operators.sum model at (cell v) (value_of v c.args.amount) c.args.size) (cell_in bases state)
    c.in_err-seen.field-0.0 c.from_residual.ensures
    (λ waits onward cells v fits.
    let amount = value_of v c.args.amount in
    let rest = after_look model at amount c.args.size onward (cell v) in
    let first = looks_first model at amount c.args.size onward (cell v) in
    waits_on cells _ _ _ (access.look at (cell v) rest) bases _ v _ (leads_same cells _ _ _ first)
    (c.in_err-seen.ensures.waits waits bases named rest cells v fits))

pub returns-in_err-check-in-Null-clause-act : goal.returns-in_err-check-in-Null-clause-act
returns-in_err-check-in-Null-clause-act g c = λ every bases named.
    let state = c.args.state.now in
    let at = c.args.at in
    let model = c.args.context.now.setting.now.program.now.model in
    let cell = cell_in bases state c.args.pointer in
    handed state bases _ _ c.from_residual-in_err-check-in-Null.result
    (λ v. operators.sum model at (cell v) (value_of v c.args.amount) c.args.size) (cell_in bases state)
    c.in_err-check-in-Null.field-0.0 c.from_residual-in_err-check-in-Null.ensures
    (λ waits onward cells v fits.
    let amount = value_of v c.args.amount in
    let rest = after_look model at amount c.args.size onward (cell v) in
    let first = looks_first model at amount c.args.size onward (cell v) in
    let looked = leads_on cells _ _ _ _ _ rest (leads_same cells _ _ _ first) (c.in_ok-seen.ensures.through bases named cells v fits rest) in
    let null = rw c.in-Null.is at c.in_ok-seen.ensures.seen bases v fits in
    let unmoved = moves_null model at amount c.args.size onward (cell v) null in
    waits_on cells _ _ _ _ bases _ v _ (leads_on cells _ _ _ _ rest _ looked (leads_same cells _ rest _ unmoved))
    ((c.in_err-check-in-Null.ensures.act every bases (λ w. operators.unmoved at (value_of w c.args.amount))
    (λ w is. null_check at w c.args.amount)).waits waits (onward NullCell) cells v fits))

pub returns-in_err-check-in-At-clause-act : goal.returns-in_err-check-in-At-clause-act
returns-in_err-check-in-At-clause-act g c = λ every bases named.
    let state = c.args.state.now in
    let at = c.args.at in
    let model = c.args.context.now.setting.now.program.now.model in
    let cell = cell_in bases state c.args.pointer in
    handed state bases _ _ c.from_residual-in_err-check-in-At.result
    (λ v. operators.sum model at (cell v) (value_of v c.args.amount) c.args.size) (cell_in bases state)
    c.in_err-check-in-At.field-0.0 c.from_residual-in_err-check-in-At.ensures
    (λ waits onward cells v fits.
    let amount = value_of v c.args.amount in
    let rest = after_look model at amount c.args.size onward (cell v) in
    let first = looks_first model at amount c.args.size onward (cell v) in
    let looked = leads_on cells _ _ _ _ _ rest (leads_same cells _ _ _ first) (c.in_ok-seen.ensures.through bases named cells v fits rest) in
    waits_on cells _ _ _ rest bases _ v _ looked
    ((c.in_err-check-in-At.ensures.act every bases (λ w act. act) (λ w is. moved_check at w c.args.amount)).waits waits rest cells v fits))

pub returns-in_err-moved-in-At-clause-act : goal.returns-in_err-moved-in-At-clause-act
returns-in_err-moved-in-At-clause-act g c = λ every bases named.
    let state = c.args.state.now in
    let at = c.args.at in
    let model = c.args.context.now.setting.now.program.now.model in
    let cell = cell_in bases state c.args.pointer in
    let still = every_kept _ _ _ c.in_ok-check-in-At.ensures.kinds every in
    handed state bases _ _ c.from_residual-in_err-moved-in-At.result
    (λ v. operators.sum model at (cell v) (value_of v c.args.amount) c.args.size) (cell_in bases state)
    c.in_err-moved-in-At.field-0.0 c.from_residual-in_err-moved-in-At.ensures
    (λ waits onward cells v fits.
    let amount = value_of v c.args.amount in
    let rest = after_look model at amount c.args.size onward (cell v) in
    let first = looks_first model at amount c.args.size onward (cell v) in
    let looked = leads_on cells _ _ _ _ _ rest (leads_same cells _ _ _ first) (c.in_ok-seen.ensures.through bases named cells v fits rest) in
    let base = slice_get bases c.in-At.base in
    let there = rw c.in-At.is at c.in_ok-seen.ensures.seen bases v fits in
    let has_name = rw c.in-At.is at c.in_ok-seen.ensures.named bases named in
    let moves = moves_pointer model at amount c.args.size onward (cell v) base (value_of v c.in-At.offset) has_name there in
    let checks = c.in_ok-check-in-At.ensures.act every bases (λ w act. act) (λ w is. moved_check at w c.args.amount) in
    let ready = leads_on cells _ _ _ _ rest _ looked
    (leads_on cells _ _ _ rest rest _ (checks.through cells v fits rest) (leads_same cells _ rest _ moves)) in
    waits_on cells _ _ _ _ bases _ v _ ready
    ((c.in_err-moved-in-At.ensures.act still bases).waits waits (λ moved. onward (pointer_to base moved)) cells v fits))

pub returns-in_ok-check-in-Null-clause-act : goal.returns-in_ok-check-in-Null-clause-act
returns-in_ok-check-in-Null-clause-act g c = λ every bases named.
    let state = c.args.state.now in
    let at = c.args.at in
    let model = c.args.context.now.setting.now.program.now.model in
    let cell = cell_in bases state c.args.pointer in
    record {
      through = λ cells v fits onward.
          let amount = value_of v c.args.amount in
          let rest = after_look model at amount c.args.size onward (cell v) in
          let first = looks_first model at amount c.args.size onward (cell v) in
          let looked = leads_on cells _ _ _ _ _ rest (leads_same cells _ _ _ first) (c.in_ok-seen.ensures.through bases named cells v fits rest) in
          let null = rw c.in-Null.is at c.in_ok-seen.ensures.seen bases v fits in
          let unmoved = moves_null model at amount c.args.size onward (cell v) null in
          let checks = c.in_ok-check-in-Null.ensures.act every bases (λ w. operators.unmoved at (value_of w c.args.amount))
          (λ w is. null_check at w c.args.amount) in
          leads_on cells _ _ _ _ _ _ (leads_on cells _ _ _ _ rest _ looked (leads_same cells _ rest _ unmoved))
          (checks.through cells v fits (onward NullCell));
      waits = tt;
    }

pub returns-in_ok-moved-in-At-clause-act : goal.returns-in_ok-moved-in-At-clause-act
returns-in_ok-moved-in-At-clause-act g c = λ every bases named.
    let state = c.args.state.now in
    let at = c.args.at in
    let model = c.args.context.now.setting.now.program.now.model in
    let cell = cell_in bases state c.args.pointer in
    let still = every_kept _ _ _ c.in_ok-check-in-At.ensures.kinds every in
    record {
      through = λ cells v fits onward.
          let amount = value_of v c.args.amount in
          let rest = after_look model at amount c.args.size onward (cell v) in
          let first = looks_first model at amount c.args.size onward (cell v) in
          let looked = leads_on cells _ _ _ _ _ rest (leads_same cells _ _ _ first) (c.in_ok-seen.ensures.through bases named cells v fits rest) in
          let base = slice_get bases c.in-At.base in
          let there = rw c.in-At.is at c.in_ok-seen.ensures.seen bases v fits in
          let has_name = rw c.in-At.is at c.in_ok-seen.ensures.named bases named in
          let moves = moves_pointer model at amount c.args.size onward (cell v) base (value_of v c.in-At.offset) has_name there in
          let checks = c.in_ok-check-in-At.ensures.act every bases (λ w act. act) (λ w is. moved_check at w c.args.amount) in
          let ready = leads_on cells _ _ _ _ rest _ looked
          (leads_on cells _ _ _ rest rest _ (checks.through cells v fits rest) (leads_same cells _ rest _ moves)) in
          leads_on cells _ _ _ _ _ _ ready
          ((c.in_ok-moved-in-At.ensures.act still bases).through cells v fits (λ moved. onward (pointer_to base moved)));
      waits = tt;
    }

pub returns-in-Other-clause-act : goal.returns-in-Other-clause-act
returns-in-Other-clause-act g c = λ every bases named.
    let state = c.args.state.now in
    let at = c.args.at in
    let model = c.args.context.now.setting.now.program.now.model in
    let cell = cell_in bases state c.args.pointer in
    record {
      through = λ cells v fits onward.
          let amount = value_of v c.args.amount in
          let rest = after_look model at amount c.args.size onward (cell v) in
          let first = looks_first model at amount c.args.size onward (cell v) in
          let looked = leads_on cells _ _ _ _ _ rest (leads_same cells _ _ _ first) (c.in_ok-seen.ensures.through bases named cells v fits rest) in
          let none = rw c.in-Other.is at c.in_ok-seen.ensures.seen bases v fits in
          leads_on cells _ _ _ _ rest _ looked (leads_same cells _ rest _ (moves_nothing model at amount c.args.size onward (cell v) none));
      waits = tt;
    }
