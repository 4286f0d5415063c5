use Rattle.std.proofs.Common.{◌≡◌, ℕ, false, List, [], ◌∷◌, ◌++◌, ap, ◌∙◌, string_bytes}
use Rattle.serde_json.specs.View.{view}
use Rattle.serde_json.specs.Written.{has_float, compact_text}
use Rattle.cs_ast.specs.TypedProgram.{typed_program}
use Rattle.cs_report.specs.AnalysisJson.{analysis_json}
use Rattle.cs_report.proofs.JsonTexts.{no_floats}
use Rattle.cs_report.proofs.json_entry.json.Goals as goal

pub returns : goal.returns
returns c =
    let wanted = analysis_json (typed_program c.args.program.now) c.args.kinds.now c.args.results.now in
    let value : view c.in_ok-value.value ≡ wanted = c.in_ok-value.ensures in
    let exact : has_float (view c.in_ok-value.value) ≡ false =
    ap has_float value ∙ no_floats (typed_program c.args.program.now) c.args.kinds.now c.args.results.now in
    let text : string_bytes c.in_ok-to_string.field-0 ≡ compact_text wanted = c.in_ok-to_string.ensures.text exact ∙ ap compact_text value in
    c.in_ok-push.ensures.items ∙ ap (λ (t : List ℕ). t ++ 10 ∷ []) (ap (λ v. v.items) c.into_bytes-text.ensures.value ∙ text)
