use Rattle.std.proofs.Common.{◌≡◌, Err, FitsSigned, ap, rules}
use Rattle.std.proofs.lemmas.Int.{to_z-of_z}
use Rattle.std.specs.Int.{w128}
use Rattle.cs_events.specs.Acts.{Act}
use Rattle.cs_events.specs.Runs.{perform}
use Rattle.cs_meaning.specs.Machine.{State}
use Rattle.cs_run_log.specs.LogView.{setting_of, log_of}
use Rattle.cs_run_log.proofs.Chains.{ends_following}
use Rattle.cs_memory.proofs.access.reach_block.Goals as goal

pub returns-in_err-number-in-None-clause-err : goal.returns-in_err-number-in-None-clause-err
returns-in_err-number-in-None-clause-err c =
    let there : c.from_residual.result ≡ Err c.in_err-number-in-None.field-0.0 = search rules in
    let fits : FitsSigned w128 c.args.offset = search rules in
    let plain = to_z-of_z w128 c.args.offset fits in
    let ends = rw plain at c.in_err-number-in-None.ensures.err in
    rw there (λ onward.
    ends_following _ _ (ap (λ (act : Act State). perform (setting_of c.args.setting.now) (log_of c.args.log.now) act)
    (c.in-None.ensures c.args.access.place _)) (ends onward))
