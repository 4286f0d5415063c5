-- A result that lists all ends of an exploration.
use Rattle.std.specs.Prelude.{◌≡◌, [], All}
use Rattle.cs_explored.specs.declared.explored.End.{End}
use Rattle.cs_explored.specs.declared.explored.Explored.{Explored}
use Rattle.cs_findings.specs.EveryRun.{HasFinding}
use Rattle.cs_results.specs.declared.result.EntryResult.{EntryResult}

-- each end whose outcome is a fault or a budget has a finding, and if nothing is listed as cut, nothing was
pub record ShowsAllEnds (explored : Explored) (found : EntryResult) : Type 0 where
  pub ends : All (λ (end : End). HasFinding found end.outcome) explored.ends.items
  pub cuts : found.cuts.items ≡ [] → explored.cuts.items ≡ []
