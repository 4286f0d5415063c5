-- The remaining tokens lead to the site that all of them lead to.
use Rattle.std.proofs.Common.{◌≡◌, drop}
use Rattle.cs_unsupported.specs.Sites.{the_first, run}
use Rattle.cs_unsupported.specs.Readings.{kinds, site_of}
use Rattle.cs_unsupported.proofs.inside.read.Given as goal

abbrev pub invariant-tokens : goal.invariant-tokens
invariant-tokens l = run (kinds (drop l.token-index l.before)) (site_of l.reading) ≡ run (kinds l.before) the_first
