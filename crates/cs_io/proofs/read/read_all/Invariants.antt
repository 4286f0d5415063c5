-- The bytes gathered so far are the first ones that remained in the source.
use Rattle.std.proofs.Common.{◌≤◌, ◌-◌, vec_len}
use Rattle.std.specs.Io.KnownBytes.{Consumes}
use Rattle.cs_limits.specs.declared.TheConstants.{MOST_BYTES}
use Rattle.cs_io.proofs.read.read_all.Given as goal

abbrev pub invariant-loop-bytes : goal.invariant-loop-bytes
invariant-loop-bytes g l = record {
  takes_next : Consumes (g.S.Source.left l.initial.source) (g.S.Source.left l.source) l.bytes.items;
  limit : vec_len l.bytes ≤ MOST_BYTES;
  never_falls : g.S.Source.faults l.initial.source ≤ g.S.Source.faults l.source;
}

abbrev pub decreases-loop-bytes : goal.decreases-loop-bytes
decreases-loop-bytes g l = MOST_BYTES - vec_len l.bytes
