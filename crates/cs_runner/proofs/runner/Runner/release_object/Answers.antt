use Rattle.std.proofs.Common.{ap, ◌∙◌}
use Rattle.std.specs.Prelude.{FitsSigned}
use Rattle.std.specs.Int.{w128}
use Rattle.std.proofs.lemmas.Int.{to_z-of_z}
use Rattle.cs_events.specs.Acts.{Act}
use Rattle.cs_events.specs.Runs.{perform}
use Rattle.cs_meaning.specs.Machine.{State}
use Rattle.cs_run_log.specs.LogView.{setting_of, log_of}
use Rattle.cs_run_log.proofs.Performing.{perform-Stops}
use Rattle.cs_runner.proofs.runner.Runner.release_object.Goals as goal

pub returns-in-Some : goal.returns-in-Some
returns-in-Some c =
    let fits : FitsSigned w128 c.args.offset = c.ranges.offset in
    let offset = to_z-of_z w128 c.args.offset fits in
    let refused = rw offset at (c.in-Some.ensures c.args.place) in
    rw c.fault.ensures (record {
      ok = tt;
      err = ap (λ (act : Act State). perform (setting_of c.args.self.now.setting.now) (log_of c.args.self.now.log) act) refused ∙ perform-Stops _ _ _;
      kept = tt;
    })
