use Rattle.std.proofs.Common.{[], refl}
use Rattle.cs_progress.specs.declared.pause.Pause.TheVariants as pause
use Rattle.cs_progress.proofs.Carrying.{handed_check, no_wait}
use Rattle.cs_operators.proofs.Checking.{some_left, silent_leads, later_leads, faults_begin, failed}
use Rattle.cs_operators.proofs.attempt.Attempt.check.Goals as goal

pub returns-then-is_answered_later-clause-act : goal.returns-then-is_answered_later-clause-act
returns-then-is_answered_later-clause-act g c = λ every bases checked is. record {
  through = λ cells v fits act.
      later_leads cells c.args.subject c.args.at v _ (checked v) (is v fits) _ act every
      (some_left c.args.state.now c.args.self.now.progress.used v (c.if-is_answered_later.ensures.later refl));
  waits = tt;
}

pub returns-in-Whole-clause-act : goal.returns-in-Whole-clause-act
returns-in-Whole-clause-act g c = λ every bases checked is.
    let silent = rw c.in-Whole.is at c.in_ok-checked.ensures.rest in
    record {
      through = λ cells v fits act. silent_leads cells c.args.subject c.args.at v _ (checked v) (is v fits) _ act every (silent v fits);
      waits = tt;
    }

pub returns-in_err-checked-2 : goal.returns-in_err-checked-2
returns-in_err-checked-2 g c = record {
  kinds = c.check.ensures.kinds;
  passed = failed c.from_residual-in_err-checked-2.result _ c.from_residual-in_err-checked-2.ensures.0;
  used = refl;
  act = λ every bases checked is.
      handed_check c.args.state.now bases _ _ c.from_residual-in_err-checked-2.result checked pause.Memory
      c.from_residual-in_err-checked-2.ensures (λ waits. no_wait pause.Memory refl waits);
}

pub returns : goal.returns
returns g c = record {
  kinds = c.check.ensures.kinds;
  passed = tt;
  used = c.wait.ensures.used;
  act = λ every bases checked is. record {
    through = tt;
    waits = λ waits act cells v fits uses.
        rw (c.wait.ensures.first, c.in_ok-checked-2.ensures.ok)
        (record {
          faults = faults_begin cells c.args.subject c.args.at v [] (checked v) (is v fits) c.args.state.now _ _ c.in_ok-checked.ensures.faults _ act;
          parts = record { subject = _; kinds = _; faults = c.in_ok-checked.ensures.faults; rest = c.in_ok-checked.ensures.rest };
        });
  };
}
