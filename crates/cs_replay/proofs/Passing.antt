-- The result of a call, in terms of the run before another call: for steps that continue with what they are passed.
use Rattle.std.proofs.Common.{◌≡◌, Result, OnOk, IfErr, ◌∙◌, subst}
use Rattle.std.specs.Prelude.{⊤}
use Rattle.std.specs.Borrow.{Bor}
use Rattle.cs_events.specs.Acts.{Act}
use Rattle.cs_events.specs.Runs.{Continues, perform}
use Rattle.cs_run_log.specs.declared.logs.Log.{Log}
use Rattle.cs_run_log.specs.declared.logs.Stop.{Stop}
use Rattle.cs_objects.specs.declared.settings.Setting.{Setting}
use Rattle.cs_run_log.specs.LogView.{setting_of, log_of}
use Rattle.cs_cfg.specs.Working.{CodeState}
use Rattle.cs_replay.specs.declared.replayer.Replayer.{Replayer}
use Rattle.cs_replay.specs.ReplayerView.{state_in, ended, KeepsSetting, Performs}
use Rattle.cs_replay.proofs.Stepping.{on_ok}

-- a call that performs an act from a run with the same setting, log and code performs it from this one
pub performs_as : {old moved new : Replayer} {result : Result ⊤ Stop} {act same : Act CodeState} → moved.runner.setting ≡ old.runner.setting
    → moved.runner.log ≡ old.runner.log → moved.code ≡ old.code → act ≡ same → Performs moved new result act → Performs old new result same
performs_as {old = old} {moved = moved} {new = new} {result = result} {act = act} {same = same} setting log code is done =
    let leads : Bor Setting → Log → Act CodeState → Type 0 = λ s l a.
    OnOk result (perform (setting_of s.now) (log_of l) a ≡ Continues (state_in new) (log_of new.runner.log)) in
    let ends : Bor Setting → Log → Act CodeState → Type 0 = λ s l a.
    IfErr result (λ stop. perform (setting_of s.now) (log_of l) a ≡ ended stop (log_of new.runner.log) (perform (setting_of s.now) (log_of l) a)) in
    let others : KeepsSetting moved new → KeepsSetting old new = λ kept. record { setting = kept.setting ∙ setting; code = kept.code ∙ code } in
    record {
      ok = subst (λ (s : Bor Setting). leads s old.runner.log same) setting
          (subst (λ (l : Log). leads moved.runner.setting l same) log
          (subst (λ (a : Act CodeState). leads moved.runner.setting moved.runner.log a) is done.ok));
      err = subst (λ (s : Bor Setting). ends s old.runner.log same) setting
          (subst (λ (l : Log). ends moved.runner.setting l same) log
          (subst (λ (a : Act CodeState). ends moved.runner.setting moved.runner.log a) is done.err));
      kept = on_ok result others done.kept;
    }
