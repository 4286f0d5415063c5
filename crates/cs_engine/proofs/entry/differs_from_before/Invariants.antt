use Rattle.std.proofs.Common.{ℕ, ◌<◌}
use Rattle.cs_engine.proofs.Parameters.{IsOther}
use Rattle.cs_engine.proofs.entry.differs_from_before.Given as goal

abbrev pub invariant-loop-earlier : goal.invariant-loop-earlier
invariant-loop-earlier l = (earlier : ℕ) → earlier < l.earlier → IsOther l.parameters l.number earlier
