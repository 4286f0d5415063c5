-- Printed so far: the lines of the cuts before the index.
use Rattle.std.proofs.Common.{◌≡◌, ◌++◌, take, codes}
use Rattle.std.specs.List.{flat_map}
use Rattle.cs_results.specs.declared.result.Cut.{Cut}
use Rattle.cs_report.specs.AnalysisLines.{cut_line}
use Rattle.cs_report.proofs.cut.append_cuts.Given as goal

abbrev pub invariant-loop-cut : goal.invariant-loop-cut
invariant-loop-cut l = l.text.items ≡ l.initial.text.items
    ++ flat_map (λ (cut : Cut). cut_line l.files cut ++ codes "\n") (take l.cut-index l.cuts)
