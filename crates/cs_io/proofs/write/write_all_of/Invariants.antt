-- The first bytes of the text were written, and the counts didn't decrease.
use Rattle.std.proofs.Common.{◌≤◌, ◌-◌, length, take}
use Rattle.std.specs.Io.KnownBytes.{Appends}
use Rattle.cs_io.proofs.write.write_all_of.Given as goal

abbrev pub invariant-loop-done : goal.invariant-loop-done
invariant-loop-done g l = record {
  writes : Appends (g.K.Sink.written l.initial.sink) (g.K.Sink.written l.sink) (take l.done l.text);
  within : l.done ≤ length l.text;
  faults : g.K.Sink.faults l.initial.sink ≤ g.K.Sink.faults l.sink;
  empty_takes : g.K.Sink.empty_takes l.initial.sink ≤ g.K.Sink.empty_takes l.sink;
}

abbrev pub decreases-loop-done : goal.decreases-loop-done
decreases-loop-done g l = length l.text - l.done
