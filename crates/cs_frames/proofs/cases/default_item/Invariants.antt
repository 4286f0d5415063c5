-- None of the cases before the index is the `default`.
use Rattle.std.proofs.Common.{◌≡◌, ℕ, drop}
use Rattle.cs_meaning.specs.Statements as meaning
use Rattle.cs_frames.proofs.cases.default_item.Given as goal

abbrev pub invariant-loop-case : goal.invariant-loop-case
invariant-loop-case l = (otherwise : ℕ) → meaning.default_item l.cases otherwise ≡ meaning.default_item (drop l.case-index l.cases) otherwise
