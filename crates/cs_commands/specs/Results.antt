-- The answer to the results of an analysis, wherever they come from.
use Rattle.std.specs.Prelude.{◌≡◌, ℕ, Bool, List, if◌then◌else◌}
use Rattle.cs_model.specs.declared.kind.Kind.{Kind}
use Rattle.cs_ast.specs.TypedProgram.{TypedProgram}
use Rattle.cs_results.specs.declared.result.EntryResult.{EntryResult}
use Rattle.cs_results.specs.Selected.{lists_report}
use Rattle.cs_report.specs.AnalysisLines.{analysis_text}
use Rattle.cs_report.specs.AnalysisJson.{analysis_json_text}
use Rattle.cs_answers.specs.declared.status.Status.{Status}
use Rattle.cs_answers.specs.declared.status.Status.TheVariants.{Clean, Found}

-- the text of results with the reports of these kinds, as JSON or as lines
abbrev pub results_text : (json : Bool) → TypedProgram → List Kind → List EntryResult → List ℕ
results_text json program kinds results = if json then analysis_json_text program kinds results else analysis_text program kinds results

-- `Found` if a report of these kinds is listed
abbrev pub results_status : List Kind → List EntryResult → Status
results_status kinds results = if lists_report kinds results then Found else Clean

-- the answer to the results of an analysis: other kinds aren't printed and don't count for the status
pub record IsResultsAnswer (json : Bool) (program : TypedProgram) (kinds : List Kind) (results : List EntryResult) (status : Status) (text : List ℕ)
    : Type 0 where
  pub says : text ≡ results_text json program kinds results
  pub yields : status ≡ results_status kinds results
