-- A run between the beginning of a course and its end, and how many steps remain: for the loop of `follow`.
use Rattle.std.proofs.Common.{◌≡◌, ℕ, ◌≤◌, ◌<◌, refl, sym, ap, ◌∙◌, subst, arith}
use Rattle.cs_ast.specs.TypedProgram.{typed_program}
use Rattle.cs_events.specs.declared.outcome.Outcome.{Outcome}
use Rattle.cs_events.specs.Acts.{Act}
use Rattle.cs_events.specs.Runs as runs
use Rattle.cs_events.specs.Runs.{Log, Performed, Continues, Finishes, perform, empty, Leads, stays, goes}
use Rattle.cs_events.proofs.RunLaws.{leads_on}
use Rattle.cs_meaning.specs.ProgramRuns as meaning
use Rattle.cs_objects.specs.Prepared as settings
use Rattle.cs_objects.specs.declared.settings.Setting.{Setting}
use Rattle.cs_run_log.specs.LogView.{setting_of, log_of}
use Rattle.cs_cfg.specs.declared.code.Code.{Code}
use Rattle.cs_cfg.specs.CodeSteps.{code_step, code_start, CodeGives}
use Rattle.cs_cfg.specs.GraphView as view
use Rattle.cs_cfg.specs.Lowered.{HasGraphs}
use Rattle.cs_cfg.specs.Working.{CodeState}
use Rattle.cs_replay.specs.declared.replayer.Replayer.{Replayer}
use Rattle.cs_replay.specs.declared.replays.Course.{Course}
use Rattle.cs_runner.specs.RunView.{run_of}
use Rattle.cs_replay.specs.ReplayerView.{program_of, budgets_of, code_of, state_in, IsReady, KeepsSetting}
use Rattle.cs_replay.specs.RunLengths.{HasLeft}
use Rattle.cs_replay.proofs.Lengths.{counted, counts_left, one_less}

module _ (course : Course) where
  -- the step function of its run, the setting of the run, and its first state
  abbrev pub step_of : CodeState → Act CodeState
  step_of = code_step (view.code course.code.now) (typed_program course.setting.now.program.now) course.setting.now.budgets

  abbrev pub goes_by : runs.Setting
  goes_by = meaning.setting_of (typed_program course.setting.now.program.now) (run_of course.setting.now) course.setting.now.budgets

  abbrev pub first_of : CodeState
  first_of = code_start (view.code course.code.now) (typed_program course.setting.now.program.now) course.entry (run_of course.setting.now)

  -- the result of the next step of a run
  abbrev pub next_of : Replayer → Performed CodeState
  next_of run = perform goes_by (log_of run.runner.log) (step_of (state_in run))

  -- how many steps of a run remain
  abbrev pub steps_left : Replayer → ℕ
  steps_left run = counted step_of goes_by course.ends.0 (next_of run)

  -- a run that has come from the beginning, and has some steps left
  pub record OnWay (run : Replayer) : Type 0 where
    pub setting : run.runner.setting.now ≡ course.setting.now
    pub code : run.code.now ≡ course.code.now
    pub leads : Leads step_of goes_by first_of empty (state_in run) (log_of run.runner.log)
    pub steps : ℕ
    pub few : steps ≤ course.ends.0
    pub left : HasLeft step_of goes_by steps (next_of run)

  pub begins : (run : Replayer) → run.runner.setting.now ≡ course.setting.now → run.code.now ≡ course.code.now → state_in run ≡ first_of
      → log_of run.runner.log ≡ empty → OnWay run
  begins run setting code state log = record {
    setting = setting;
    code = code;
    leads = stays (sym state) (sym log);
    steps = course.ends.0;
    few = omega arith;
    left = subst (λ (m : CodeState). HasLeft step_of goes_by course.ends.0 (perform goes_by (log_of run.runner.log) (step_of m))) (sym state)
        (subst (λ (l : Log). HasLeft step_of goes_by course.ends.0 (perform goes_by l (step_of first_of))) (sym log) course.ends.1);
  }

  -- it is ready for a step, if the course's setting is ready and its program has its graphs
  pub ready : (run : Replayer) → OnWay run → settings.IsReady course.setting.now
      → HasGraphs (view.code course.code.now) (typed_program course.setting.now.program.now) → IsReady run
  ready run way prepared graphs = record {
    setting = subst settings.IsReady (sym way.setting) prepared;
    graphs = subst (λ (k : Code). HasGraphs (view.code k) (typed_program run.runner.setting.now.program.now)) (sym way.code)
        (subst (λ (s : Setting). HasGraphs (view.code course.code.now) (typed_program s.program.now)) (sym way.setting) graphs);
  }

  -- the result of the run's step is that of the course's step
  comes_to : (run : Replayer) (done : Performed CodeState) → OnWay run
      → perform (setting_of run.runner.setting.now) (log_of run.runner.log) (code_step (code_of run) (program_of run) (budgets_of run) (state_in run))
      ≡ done → next_of run ≡ done
  comes_to run done way e =
      let at : Setting → Code → Type 0 = λ s k.
      perform (setting_of s) (log_of run.runner.log) (code_step (view.code k) (typed_program s.program.now) s.budgets (state_in run)) ≡ done in
      subst (λ (k : Code). at course.setting.now k) way.code (subst (λ (s : Setting). at s run.code.now) way.setting e)

  module _ (run new : Replayer) (way : OnWay run) (kept : KeepsSetting run new)
      (leads : perform (setting_of run.runner.setting.now) (log_of run.runner.log) (code_step (code_of run) (program_of run) (budgets_of run) (state_in run))
      ≡ Continues (state_in new) (log_of new.runner.log)) where
    -- after a step it is still on its way
    pub goes_on : OnWay new
    goes_on =
        let e = comes_to run (Continues (state_in new) (log_of new.runner.log)) way leads in
        let less = one_less step_of goes_by way.steps (next_of run) (state_in new) (log_of new.runner.log) e way.left in
        let steps = way.steps in
        let few = way.few in
        let fewer = less.fewer in
        let one_more = less.one_more in
        record {
          setting = ap (λ b. b.now) kept.setting ∙ way.setting;
          code = ap (λ b. b.now) kept.code ∙ way.code;
          leads = leads_on step_of goes_by way.leads (goes e (stays refl refl));
          steps = fewer;
          few = omega arith;
          left = less.left;
        }

    -- with one step less
    pub fewer_left : steps_left new < steps_left run
    fewer_left =
        let e = comes_to run (Continues (state_in new) (log_of new.runner.log)) way leads in
        let less = one_less step_of goes_by way.steps (next_of run) (state_in new) (log_of new.runner.log) e way.left in
        let few = way.few in
        let one_more = less.one_more in
        let now = counts_left step_of goes_by way.steps course.ends.0 (next_of run) way.few way.left in
        let within : less.fewer ≤ course.ends.0 = omega arith in
        let then = counts_left step_of goes_by less.fewer course.ends.0 (next_of new) within less.left in
        omega arith

  -- a run that finishes has the end of the code's run
  pub gives : (run : Replayer) (outcome : Outcome) (end : Log) → OnWay run
      → perform (setting_of run.runner.setting.now) (log_of run.runner.log) (code_step (code_of run) (program_of run) (budgets_of run) (state_in run))
      ≡ Finishes outcome end
      → CodeGives (view.code course.code.now) (typed_program course.setting.now.program.now) course.entry (run_of course.setting.now)
      course.setting.now.budgets outcome end
  gives run outcome end way e = record {
    last = state_in run;
    before = log_of run.runner.log;
    leads = way.leads;
    finishes = comes_to run (Finishes outcome end) way e;
  }
