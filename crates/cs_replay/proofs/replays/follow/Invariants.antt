-- The run is on its way.
use Rattle.cs_replay.proofs.Courses.{OnWay, steps_left}
use Rattle.cs_replay.proofs.replays.follow.Given as goal

abbrev pub invariant-loop-outcome : goal.invariant-loop-outcome
invariant-loop-outcome l = OnWay l.course l.replayer

abbrev pub decreases-loop-outcome : goal.decreases-loop-outcome
decreases-loop-outcome l = steps_left l.course l.replayer
