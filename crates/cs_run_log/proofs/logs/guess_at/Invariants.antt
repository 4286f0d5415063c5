-- The guesses before the index are of other events.
use Rattle.std.proofs.Common.{◌≡◌, drop}
use Rattle.cs_events.specs.Runs.{guess_at}
use Rattle.cs_run_log.proofs.logs.guess_at.Given as goal

abbrev pub invariant-loop-guess : goal.invariant-loop-guess
invariant-loop-guess l = guess_at l.guesses l.event ≡ guess_at (drop l.guess-index l.guesses) l.event
