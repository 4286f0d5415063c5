-- If a run is done, the code's run has reached a state that returns what the reference machine's does, with the same memory.
use Rattle.std.specs.Prelude.{◌⊎◌}
use Rattle.std.proofs.Common.{◌≡◌, inl, inr, ℕ, List, [], ◌∷◌, length, Some, refl, sym, ap, ◌∙◌, subst}
use Rattle.cs_ast.specs.TypedTree.{Statement}
use Rattle.cs_ast.specs.TypedProgram.{TypedProgram}
use Rattle.cs_events.specs.declared.outcome.Outcome.{Outcome}
use Rattle.cs_events.specs.declared.outcome.Outcome.TheVariants.{Done}
use Rattle.cs_events.specs.declared.outcome.Returned.{Returned}
use Rattle.cs_events.specs.declared.outcome.RunBudgets.{RunBudgets}
use Rattle.cs_ast.specs.declared.place.Place.{Place}
use Rattle.cs_events.specs.declared.point.PointKind.{PointKind}
use Rattle.cs_events.specs.Touches.{Meets}
use Rattle.cs_events.specs.Acts.{Act, Goes, Touches}
use Rattle.cs_events.specs.Runs.{Setting, Log, Continues, Finishes, perform, Leads, stays, goes, EndsFrom}
use Rattle.cs_meaning.specs.Machine.{Item, End, Give, Leave, State, to_do, operand_at, routine_of}
use Rattle.cs_meaning.specs.Steps.{do_item, step_with, step}
use Rattle.cs_meaning.specs.ProgramRuns.{ProgramRun, setting_of, RunGives}
use Rattle.cs_cfg.specs.Graph.{Point, Flow, Code, flow_of}
use Rattle.cs_cfg.specs.Working.{CodeState, cut}
use Rattle.cs_cfg.specs.CodeSteps.{step_at, code_step, CodeGives}
use Rattle.cs_cfg.specs.Placing.{Joins, there, jumps}
use Rattle.cs_cfg.specs.Lowered.{returned_with, returned_value, end_value, code_returned, RunsAlike, ReadsOff, IsLowered}
use Rattle.cs_cfg.specs.Placed.{IsPlaced}
use Rattle.cs_cfg.proofs.Related.{Aligned, Related, now, soon}
use Rattle.cs_cfg.proofs.Moving.{uncut, Home, stands, home_of, reported_by}
use Rattle.cs_cfg.proofs.Returning.{NeverReturns, never_done}
use Rattle.cs_cfg.proofs.Staying.{IsLast, stays_or_leaves}
use Rattle.cs_cfg.proofs.Runs.{both_end, code_ends, code_ends_only, code_pends, code_pends_only}

module _ {State : Type 0} (step : State → Act State) (setting : Setting) where
  -- two sequences of steps to the end of a run reach the same last state
  last_same : {m last last' : State} {log before before' end end' : Log} {outcome outcome' : Outcome} → Leads step setting m log last before
      → perform setting before (step last) ≡ Finishes outcome end →
      Leads step setting m log last' before' → perform setting before' (step last') ≡ Finishes outcome' end' → last ≡ last'
  last_same (stays e f) finish (stays e' f') finish' = sym e ∙ e'
  last_same {last = last} {before = before} (stays {m = m} {log = log} e f) finish (goes {next = next} {later = later} s way) finish' =
      let here : perform setting log (step m) ≡ perform setting before (step last) = ap (λ l. perform setting l (step m)) f
      ∙ ap (λ x. perform setting before (step x)) e in
      let both : Continues next later ≡ Finishes _ _ = sym s ∙ here ∙ finish in
      absurd cc
  last_same {last' = last'} {before' = before'} (goes {m = m} {next = next} {log = log} {later = later} s way) finish (stays e f) finish' =
      let here : perform setting log (step m) ≡ perform setting before' (step last') = ap (λ l. perform setting l (step m)) f
      ∙ ap (λ x. perform setting before' (step x)) e in
      let both : Continues next later ≡ Finishes _ _ = sym s ∙ here ∙ finish' in
      absurd cc
  last_same {last = last} {last' = last'} {before = before} {before' = before'} (goes {next = next} {later = later} s way) finish
      (goes {next = next'} {later = later'} s' way') finish' =
      let both : Continues next' later' ≡ Continues next later = sym s' ∙ s in
      let same : next' ≡ next = cc in
      let same_log : later' ≡ later = cc in
      last_same way finish (subst (λ l. Leads step setting next l last' before') same_log (subst (λ x. Leads step setting x later' last' before') same way'))
      finish'

  pub one_last : {m : State} {log end end' : Log} {outcome outcome' : Outcome}
      → (one : EndsFrom step setting m log outcome end) (other : EndsFrom step setting m log outcome' end') → one.last ≡ other.last
  one_last one other = last_same one.leads one.finishes other.leads other.finishes

module _ (code : Code) (program : TypedProgram) (budgets : RunBudgets) (setting : Setting) where
  -- a silent step isn't the last one
  silent_goes : (t next : CodeState) (log end : Log) (outcome : Outcome) → code_step code program budgets t ≡ Goes next
      → perform setting log (code_step code program budgets t) ≡ Finishes outcome end → ⊥
  unfolding perform
  silent_goes t next log end outcome e finish =
      let both : Continues next log ≡ Finishes outcome end = sym (ap (perform setting log) e) ∙ finish in
      absurd cc

  -- in its last state the code's run has taken all jumps
  arrived : {flow : Flow} {p q : Point} (t : CodeState) (log end : Log) (outcome : Outcome) → Joins program flow p q → t.frame.todo ≡ p
      → perform setting log (code_step code program budgets t) ≡ Finishes outcome end → t.frame.todo ≡ q
  arrived t log end outcome there e finish = e
  arrived t log end outcome (jumps way) e finish =
      absurd (silent_goes t _ log end outcome (ap (λ (p : Point). step_at code program budgets p.operations p.end t) e) finish)

  -- what touches and then continues doesn't end the run
  not_finished : (log : Log) (kind : PointKind) (at : Place) (m : State) (end : Log) (what : Returned)
      → perform setting log (Touches (Meets kind at) (Goes m)) ≡ Finishes (Done what) end → ⊥
  unfolding perform
  not_finished log kind at m end what e = cc

  -- the first thing to do in the machine's last state leaves the frame
  leaves_last : (item : Item) (items : List Item) (m : State) (log end : Log) (what : Returned) → (IsLast program item → ⊥)
      → perform setting log (do_item program budgets item (to_do items m)) ≡ Finishes (Done what) end → ⊥
  leaves_last item items m log end what other finish = decided (stays_or_leaves program budgets item (to_do items m))
    where
      decided : IsLast program item ⊎ NeverReturns (do_item program budgets item (to_do items m)) → ⊥
      decided (inl leaves) = other leaves
      decided (inr never) = never_done setting log end what never finish

  -- a point that does the machine's list, and where the run ends, returns the same
  returns_same : (todo : List Item) (m : State) (t : CodeState) (home : Home code program m.frame.function) (log end : Log) (what : Returned)
      → Aligned code program m t → stands code program home todo (length m.frame.stack) t.frame.todo →
      perform setting log (step_with program budgets todo m) ≡ Finishes (Done what) end → returned_with todo m ≡ code_returned t
  returns_same [] m t home log end what a it finish = ap (λ (p : Point). end_value p.end t) (sym it.0)
  returns_same (Leave ∷ items) m t home log end what a it finish =
      let at_end : end_value t.frame.todo.end t ≡ operand_at (cut 1 t) 0 = ap (λ (p : Point). end_value p.end t) it.1 in
      sym (at_end ∙ ap (λ x. operand_at (cut 1 x) 0) (reported_by code program a) ∙ ap (λ x. operand_at x 0) (uncut 1 t.frame.todo t.callers m it.0))
  returns_same (End at value ∷ items) m t home log end what a it finish = absurd (not_finished log _ _ _ end what finish)
  returns_same (Give at ∷ items) m t home log end what a it finish = absurd (not_finished log _ _ _ end what finish)
  returns_same (item ∷ items) m t home log end what a it finish = absurd (leaves_last item items m log end what (λ leaves. leaves) finish)

  -- related last states return the same, and have the same memory
  related_return : (m : State) (t : CodeState) (log log' end end' : Log) (what : Returned) (outcome : Outcome) → Related code program budgets m t
      → perform setting log (step program budgets m) ≡ Finishes (Done what) end →
      perform setting log' (code_step code program budgets t) ≡ Finishes outcome end' → (returned_value m ≡ code_returned t) × (m.memory ≡ t.memory)
  related_return m t log log' end end' what outcome (soon e r) finish finish' = absurd (silent_goes t _ log' end' outcome e finish')
  related_return m t log log' end end' what outcome (now a) finish finish' =
      let home = home_of code program a.frame in
      let here = arrived t log' end' outcome a.frame.joins refl finish' in (
        returns_same m.frame.todo m t home log end what a
            (subst (λ p. stands code program home m.frame.todo (length m.frame.stack) p) (sym here) a.frame.stands) finish,
        sym a.memory,
      )

module _ (code : Code) (program : TypedProgram) (placed : IsPlaced code program) where
  -- if both runs are done, they return the same
  pub code_returns : (entry : ℕ) (body : Statement) (run : ProgramRun) (budgets : RunBudgets) (what : Returned) (log : Log)
      → (routine_of program entry).body ≡ Some body →
      (one : RunGives program entry run budgets (Done what) log) (other : CodeGives code program entry run budgets (Done what) log) →
      (returned_value one.last ≡ code_returned other.last) × (one.last.memory ≡ other.last.memory)
  code_returns entry body run budgets what log e one other =
      let setting = setting_of program run budgets in
      let both = both_end code program placed entry body run budgets (Done what) log e one in
      let same = one_last (code_step code program budgets) setting both.other other in
      let related = subst (λ t. Related code program budgets one.last t) same both.related in
      related_return code program budgets setting one.last other.last one.before other.before log log what (Done what) related one.finishes other.finishes

  pub runs_alike : RunsAlike code program
  runs_alike = record {
    ends = code_ends code program placed;
    ends_only = code_ends_only code program placed;
    pends = code_pends code program placed;
    pends_only = code_pends_only code program placed;
    returns = code_returns;
  }

  -- placed code is the lowering of the program, if its control points are those of the statements
  pub is_lowered : ((function : ℕ) → ReadsOff (routine_of program function) (flow_of code function)) → IsLowered code program
  is_lowered flows = record { graphs = placed.graphs; runs = runs_alike; flows = flows }
