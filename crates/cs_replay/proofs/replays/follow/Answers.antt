use Rattle.cs_run_log.specs.LogView.{log_of}
use Rattle.cs_replay.proofs.Courses.{begins, ready, goes_on, fewer_left, gives}
use Rattle.cs_replay.proofs.replays.follow.Goals as goal

pub loop-outcome-init : goal.loop-outcome-init
loop-outcome-init c =
    let run = c.in_ok-replayer.replayer in
    begins c.args.course.now run c.in_ok-replayer.ensures.kept.0 c.in_ok-replayer.ensures.kept.1 c.in_ok-replayer.ensures.state c.in_ok-replayer.ensures.log

pub step-requires : goal.step-requires
step-requires c = ready c.args.course.now c.loop-outcome.replayer c.loop-outcome.invariant c.requires.ready c.requires.graphs

pub loop-outcome-preserved : goal.loop-outcome-preserved
loop-outcome-preserved c = goes_on c.args.course.now c.loop-outcome.replayer c.step.new.self c.loop-outcome.invariant c.in-Ok.ensures.kept c.in-Ok.ensures.ok

pub loop-outcome-smaller : goal.loop-outcome-smaller
loop-outcome-smaller c = fewer_left c.args.course.now c.loop-outcome.replayer c.step.new.self c.loop-outcome.invariant c.in-Ok.ensures.kept c.in-Ok.ensures.ok

pub returns-in-Err-Outcome : goal.returns-in-Err-Outcome
returns-in-Err-Outcome c =
    let ended = rw c.in-Err-Outcome.field-0-is at c.in-Err-Outcome.ensures.err in
    gives c.args.course.now c.loop-outcome.replayer c.in-Err-Outcome.outcome (log_of c.step.new.self.runner.log) c.loop-outcome.invariant ended
