use Rattle.std.proofs.Common.{ℕ, List, ◌++◌, ap, sym, ◌∙◌}
use Rattle.std.specs.List.{flat_map}
use Rattle.cs_ast.specs.TypedProgram.{typed_program}
use Rattle.cs_results.specs.declared.result.EntryResult.{EntryResult}
use Rattle.cs_report_parts.specs.RunLines.{text_of}
use Rattle.cs_report.specs.AnalysisLines.{entry_lines}
use Rattle.cs_report.proofs.LineTexts.{text_of-flat_map}
use Rattle.cs_report.proofs.entry.text.Goals as goal

pub returns : goal.returns
returns c =
    let lines = entry_lines (typed_program c.args.program.now) c.args.kinds.now in
    c.in_ok-append_results.ensures
    ∙ ap (λ (t : List ℕ). t ++ flat_map (λ (entry : EntryResult). text_of (lines entry)) c.args.results.now) c.new-text.ensures.items
    ∙ sym (text_of-flat_map lines c.args.results.now)
