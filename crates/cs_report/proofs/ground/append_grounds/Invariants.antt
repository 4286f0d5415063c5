-- Printed so far: the lines of the guesses before the index.
use Rattle.std.proofs.Common.{◌≡◌, ◌++◌, take}
use Rattle.std.specs.List.{flat_map}
use Rattle.cs_results.specs.declared.finding.Ground.{Ground}
use Rattle.cs_report_parts.specs.RunLines.{text_of}
use Rattle.cs_report.specs.AnalysisLines.{ground_lines}
use Rattle.cs_report.proofs.ground.append_grounds.Given as goal

abbrev pub invariant-loop-reason : goal.invariant-loop-reason
invariant-loop-reason l = l.text.items ≡ l.initial.text.items
    ++ flat_map (λ (reason : Ground). text_of (ground_lines l.files reason)) (take l.reason-index l.grounds)
