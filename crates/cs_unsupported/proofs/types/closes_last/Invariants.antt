-- The remaining tokens lead to the state that all of them lead to.
use Rattle.std.proofs.Common.{◌≡◌, false, drop}
use Rattle.cs_unsupported.specs.Parentheses.{the_outside, run}
use Rattle.cs_unsupported.specs.Readings.{kinds, parens_of}
use Rattle.cs_unsupported.proofs.types.closes_last.Given as goal

abbrev pub invariant-tokens : goal.invariant-tokens
invariant-tokens l = run l.names (kinds (drop l.token-index l.part)) (parens_of l.reading) l.reading.closes ≡ run l.names (kinds l.part) the_outside false
