-- The remaining tokens lead to the spot that all of them lead to.
use Rattle.std.proofs.Common.{◌≡◌, drop}
use Rattle.cs_unsupported.specs.Spots.{the_start, run}
use Rattle.cs_unsupported.specs.Readings.{kinds, spot_of}
use Rattle.cs_unsupported.proofs.members.is_after_member.Given as goal

abbrev pub invariant-tokens : goal.invariant-tokens
invariant-tokens l = run (kinds (drop l.token-index l.before)) (spot_of l.reading) ≡ run (kinds l.before) the_start
