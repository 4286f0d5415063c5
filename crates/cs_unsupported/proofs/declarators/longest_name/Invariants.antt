-- If no name among the remaining tokens is longer than so many bytes, and the longest before isn't, no name is.
use Rattle.std.proofs.Common.{ℕ, ◌<◌, ◌≤◌, ◌^◌, drop}
use Rattle.cs_unsupported.specs.Declarators.{AreNamesWithin}
use Rattle.cs_unsupported.specs.Readings.{kinds}
use Rattle.cs_unsupported.proofs.declarators.longest_name.Given as goal

abbrev pub invariant-tokens : goal.invariant-tokens
invariant-tokens l = (l.longest < 2 ^ 63) × ((most : ℕ) → l.longest ≤ most → AreNamesWithin most (kinds (drop l.token-index l.tokens))
    → AreNamesWithin most (kinds l.tokens))
