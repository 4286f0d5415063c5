-- Acts that do the same, where one leads to the states of the other under some mapping: for the contracts of all steps.
use Rattle.std.proofs.Common.{◌≡◌, Bool, true, false, if◌then◌else◌, refl, ap, ◌∙◌}
use Rattle.cs_events.specs.declared.outcome.Outcome.{Outcome}
use Rattle.cs_events.specs.Operations.{is_true}
use Rattle.cs_events.specs.Acts.{Act}
use Rattle.cs_events.specs.Runs.{Setting, Log, Performed, Continues, Finishes, perform, with_operation, with_allocation, with_access, with_read, with_touch}
use Rattle.cs_events.specs.Runs.{allows_event, number_of, read_cell}
use Rattle.cs_events.specs.Simulation.{Yields, both_go, both_stop, both_read, both_ask, both_allocate, both_reach, both_touch}

-- a state is the image of another one
abbrev pub Seen : {S T : Type 0} → (S → T) → S → T → Type 0
Seen seen m t = t ≡ seen m

module _ {S T : Type 0} (seen : S → T) where
  -- the result of an act under this mapping
  abbrev pub seen_so : Performed S → Performed T
  seen_so (Continues next log) = Continues (seen next) log
  seen_so (Finishes outcome log) = Finishes outcome log

  if_allowed : (room : Bool) (a : Performed S) (b : Performed T) (outcome : Outcome) (log : Log) → b ≡ seen_so a
      → (if room then b else Finishes outcome log) ≡ seen_so (if room then a else Finishes outcome log)
  if_allowed true a b outcome log same = same
  if_allowed false a b outcome log same = refl

  performs : (setting : Setting) (log : Log) {a : Act S} {b : Act T} → Yields (Seen seen) a b → perform setting log b ≡ seen_so (perform setting log a)
  unfolding perform
  performs setting log (both_go is) = ap (λ (t : T). Continues t log) is
  performs setting log both_stop = refl
  performs setting log (both_read {path = path} {kind = kind} same) =
      performs setting (with_read log path kind) (same (read_cell setting path kind))
  performs setting log (both_ask {at = at} {operation = operation} same) =
      if_allowed (allows_event setting log) _ _ _ log
      (performs setting (with_operation setting log at operation) (same (number_of setting log operation)))
  performs setting log (both_allocate {at = at} {path = path} same) =
      if_allowed (allows_event setting log) _ _ _ log
      (performs setting (with_allocation setting log at path) (same (is_true (setting.inputs path))))
  performs setting log (both_reach {at = at} {object = object} {offset = offset} same) =
      if_allowed (allows_event setting log) _ _ _ log (performs setting (with_access log at object offset) same)
  performs setting log (both_touch {touch = touch} same) = performs setting (with_touch log touch) same

  -- if one act continues the run, so does the other
  pub leads_so : (setting : Setting) (log later : Log) (a : Act S) (b : Act T) (m : S) → Yields (Seen seen) a b
      → perform setting log a ≡ Continues m later → perform setting log b ≡ Continues (seen m) later
  leads_so setting log later a b m same leads = performs setting log same ∙ ap seen_so leads

  -- if one act ends the run, so does the other
  pub finishes_so : (setting : Setting) (log later : Log) (a : Act S) (b : Act T) (outcome : Outcome) → Yields (Seen seen) a b
      → perform setting log a ≡ Finishes outcome later → perform setting log b ≡ Finishes outcome later
  finishes_so setting log later a b outcome same ends = performs setting log same ∙ ap seen_so ends
