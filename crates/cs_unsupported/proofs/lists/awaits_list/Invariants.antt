-- The remaining tokens lead to the state that all of them lead to.
use Rattle.std.proofs.Common.{◌≡◌, false, drop}
use Rattle.cs_unsupported.specs.Awaiting.{run}
use Rattle.cs_unsupported.specs.Readings.{kinds}
use Rattle.cs_unsupported.proofs.lists.awaits_list.Given as goal

abbrev pub invariant-tokens : goal.invariant-tokens
invariant-tokens l = run (kinds (drop l.token-index l.before)) l.awaits ≡ run (kinds l.before) false
