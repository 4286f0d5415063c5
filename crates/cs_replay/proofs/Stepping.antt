-- The step of the code at a point: for the contract of `step`.
use Rattle.std.proofs.Common.{◌≡◌, ◌+◌, [], Result, Ok, Err, OnOk, refl, sym, ap, ◌∙◌, subst}
use Rattle.cs_ast.specs.TypedProgram.{TypedProgram}
use Rattle.cs_events.specs.declared.outcome.RunBudgets.{RunBudgets}
use Rattle.cs_events.specs.Objects.{UnsetCell}
use Rattle.cs_events.specs.Acts.{Act}
use Rattle.cs_events.specs.Runs.{perform}
use Rattle.cs_meaning.specs.Machine.{Scalar, to_do}
use Rattle.cs_meaning.specs.Calls.{leave}
use Rattle.cs_run_log.specs.declared.logs.Stop.{Stop}
use Rattle.cs_run_log.specs.LogView.{setting_of, log_of}
use Rattle.cs_run_state.specs.MachineView.{state_of}
use Rattle.cs_cfg.specs.Graph.{Operation, BlockEnd, Point, Code, before, no_point}
use Rattle.cs_cfg.specs.Working.{CodeState}
use Rattle.cs_cfg.specs.CodeSteps.{do_operation, do_end, code_step}
use Rattle.cs_positions.specs.declared.positions.Position.{Position}
use Rattle.cs_replay.specs.declared.replayer.Replayer.{Replayer}
use Rattle.cs_positions.specs.Points.{point_of}
use Rattle.cs_replay.specs.ReplayerView.{program_of, budgets_of, code_of, state_in, IsReady, LeadsOn, Ends, KeepsSetting}

module _ (code : Code) (program : TypedProgram) (budgets : RunBudgets) (m : CodeState) where
  -- an operation comes next
  pub step_works : (operation : Operation) (following : Point) → m.frame.todo ≡ before operation following
      → code_step code program budgets m ≡ do_operation code program budgets operation (to_do following m)
  step_works operation following is =
      subst (λ (p : Point). code_step code program budgets (to_do p m) ≡ do_operation code program budgets operation (to_do following (to_do p m))) (sym is)
      refl

  -- the end of the block comes next
  pub step_ends : (end : BlockEnd) → m.frame.todo ≡ record { operations = []; end = end } → code_step code program budgets m ≡ do_end code end m
  step_ends end is = subst (λ (p : Point). code_step code program budgets (to_do p m) ≡ do_end code end (to_do p m)) (sym is) refl

  -- nothing comes next: the frame ends
  pub step_leaves : m.frame.todo ≡ no_point → code_step code program budgets m ≡ leave (Scalar UnsetCell) m
  step_leaves is = subst (λ (p : Point). code_step code program budgets (to_do p m) ≡ leave (Scalar UnsetCell) (to_do p m)) (sym is) refl

-- the point that comes next in a run
abbrev pub next_of : Replayer → Position → Point
next_of run position = point_of run.code.now position run.runner.machine.frame.function

-- one more operation of the block is done
abbrev pub one_more : Replayer → Position
one_more run = record run.position { done = run.position.done + 1 }

module _ (old moved new : Replayer) (operation : Operation) (is : moved ≡ record old { position = one_more old })
    (next : next_of old old.position ≡ before operation (next_of old (one_more old))) where
  works_next : code_step (code_of old) (program_of old) (budgets_of old) (state_in old)
      ≡ do_operation (code_of old) (program_of old) (budgets_of old) operation (state_in (record old { position = one_more old }))
  unfolding state_of
  works_next = step_works (code_of old) (program_of old) (budgets_of old) (state_in old) operation (next_of old (one_more old)) next

  -- if the operation continues the run, so does the step
  pub leads_after : LeadsOn moved new (do_operation (code_of moved) (program_of moved) (budgets_of moved) operation (state_in moved))
      → LeadsOn old new (code_step (code_of old) (program_of old) (budgets_of old) (state_in old))
  leads_after leads =
      ap (λ (act : Act CodeState). perform (setting_of old.runner.setting.now) (log_of old.runner.log) act) works_next
      ∙ subst (λ (run : Replayer). LeadsOn run new (do_operation (code_of run) (program_of run) (budgets_of run) operation (state_in run))) is leads

  -- if the operation ends the run, so does the step
  pub ends_after : (stop : Stop) → Ends moved new (do_operation (code_of moved) (program_of moved) (budgets_of moved) operation (state_in moved)) stop
      → Ends old new (code_step (code_of old) (program_of old) (budgets_of old) (state_in old)) stop
  ends_after stop ends =
      let ended_so = subst (λ (run : Replayer). Ends run new (do_operation (code_of run) (program_of run) (budgets_of run) operation (state_in run)) stop) is
      ends in
      subst (λ (act : Act CodeState). Ends old new act stop) (sym works_next) ended_so

  pub kept_after : KeepsSetting moved new → KeepsSetting old new
  kept_after kept =
      let same = subst (λ (run : Replayer). KeepsSetting run new) is kept in
      record { setting = same.setting; code = same.code }

  pub ready_after : IsReady old → IsReady moved
  ready_after ready = subst (λ (run : Replayer). IsReady run) (sym is) (record { setting = ready.setting; graphs = ready.graphs })

-- what follows from the result of a call that succeeds
pub on_ok : {X E P Q : Type 0} (r : Result X E) → (P → Q) → OnOk r P → OnOk r Q
on_ok (Ok x) h p = h p
on_ok (Err e) h p = p
