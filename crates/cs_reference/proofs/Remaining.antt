-- How many steps of a run remain: for the loop of `run`.
use Rattle.std.proofs.Common.{◌≡◌, ℕ, suc, ◌<◌, refl, ap, arith}
use Rattle.cs_ast.specs.TypedProgram.{TypedProgram}
use Rattle.cs_events.specs.declared.outcome.Outcome.{Outcome}
use Rattle.cs_events.specs.declared.outcome.RunBudgets.{RunBudgets}
use Rattle.cs_events.specs.Acts.{Act}
use Rattle.cs_events.specs.Runs.{Setting, Log, Continues, Finishes, perform, Leads, stays, goes}
use Rattle.cs_events.specs.Silence.{Ending}
use Rattle.cs_events.proofs.Endings.{every_run_ends}
use Rattle.cs_meaning.specs.Machine as machine
use Rattle.cs_meaning.specs.Steps.{step}
use Rattle.cs_meaning.proofs.Weights.{turns, weight}
use Rattle.cs_meaning.proofs.Lessening.{lessens}

module _ {State : Type 0} (go : State → Act State) (setting : Setting) where
  -- the number of steps of a path
  abbrev steps_in : {m last : State} {log end : Log} → Leads go setting m log last end → ℕ
  steps_in (stays e f) = 0
  steps_in (goes s way) = suc (steps_in way)

  -- all paths from a state to an end of the run have the same length
  equally_long : {m m' last last' : State} {log log' before before' end end' : Log} {outcome outcome' : Outcome} → m ≡ m' → log ≡ log'
      → (one : Leads go setting m log last before) (other : Leads go setting m' log' last' before')
      → perform setting before (go last) ≡ Finishes outcome end → perform setting before' (go last') ≡ Finishes outcome' end'
      → steps_in one ≡ steps_in other
  equally_long same same_log (stays e f) (stays e' f') ends ends' = refl
  equally_long same same_log (stays e f) (goes s way) ends ends' = cc
  equally_long same same_log (goes s way) (stays e f) ends ends' = cc
  equally_long same same_log (goes {next = next} {later = later} s way) (goes {next = next'} {later = later'} s' way') ends ends' =
      let same' : next ≡ next' = cc in
      let same_log' : later ≡ later' = cc in
      ap suc (equally_long same' same_log' way way' ends ends')

  -- after a step there is one step less
  one_less : {m next : State} {log later : Log} → perform setting log (go m) ≡ Continues next later
      → (here : Ending go setting m log) (there : Ending go setting next later) → steps_in here.ended.leads ≡ suc (steps_in there.ended.leads)
  one_less s here there = equally_long refl refl here.ended.leads (goes s there.ended.leads) here.ended.finishes there.ended.finishes

-- how many steps of a program's run remain in a state
pub steps_left : TypedProgram → RunBudgets → Setting → machine.State → Log → ℕ
steps_left program budgets setting m log =
    steps_in (step program budgets) setting
    (every_run_ends (step program budgets) setting (turns budgets.visits) weight (lessens program budgets) m log).ended.leads

-- after a step fewer steps remain
pub fewer_left : (program : TypedProgram) (budgets : RunBudgets) (setting : Setting) (m next : machine.State) (log later : Log)
    → perform setting log (step program budgets m) ≡ Continues next later
    → steps_left program budgets setting next later < steps_left program budgets setting m log
unfolding steps_left
fewer_left program budgets setting m next log later s =
    let less = one_less (step program budgets) setting s
    (every_run_ends (step program budgets) setting (turns budgets.visits) weight (lessens program budgets) m log)
    (every_run_ends (step program budgets) setting (turns budgets.visits) weight (lessens program budgets) next later) in
    omega arith
