-- The lines that summarize the results of a generated file.
use Rattle.std.specs.Prelude.{ℕ, Bool, List, [], ◌∷◌, ◌++◌, length, codes, if◌then◌else◌, nat_eq}
use Rattle.std.specs.List.{flat_map, count_by, sum_by}
use Rattle.std.specs.Fmt.{decimal}
use Rattle.cs_model.specs.declared.kind.Kind.{Kind}
use Rattle.cs_model.specs.Kinds.{kind_name}
use Rattle.cs_results.specs.declared.finding.Finding.{Finding}
use Rattle.cs_results.specs.declared.result.Verdict.{Verdict}
use Rattle.cs_results.specs.declared.result.EntryResult.{EntryResult}
use Rattle.cs_results.specs.Selected.{every_kind, is_kind}
use Rattle.cs_results.specs.Verdicts.{is_complete, is_bounded, is_cut}
use Rattle.cs_report_parts.specs.RunLines.{text_of}

-- how many results have a verdict
abbrev pub verdicts : (Verdict → Bool) → List EntryResult → ℕ
verdicts test results = count_by (λ (r : EntryResult). test r.verdict) results

-- how many reports have a kind
abbrev pub reports_of : Kind → List EntryResult → ℕ
reports_of kind results = sum_by (λ (r : EntryResult). count_by (λ (f : Finding). is_kind kind f.what) r.reports.items) results

-- `WORD COUNT`
abbrev pub count_line : List ℕ → ℕ → List ℕ
count_line word count = word ++ codes " " ++ decimal count

-- `report KIND COUNT`, if there is a report of the kind
abbrev pub kind_lines : List EntryResult → Kind → List (List ℕ)
kind_lines results kind = if nat_eq (reports_of kind results) 0 then [] else count_line (codes "report " ++ kind_name kind) (reports_of kind results) ∷ []

-- the summary of the results of a file with this many bytes
abbrev pub summary_text : ℕ → List EntryResult → List ℕ
summary_text bytes results = text_of (count_line (codes "bytes") bytes ∷ count_line (codes "entries") (length results)
    ∷ count_line (codes "complete") (verdicts is_complete results) ∷ count_line (codes "bounded") (verdicts is_bounded results)
    ∷ count_line (codes "cut") (verdicts is_cut results) ∷ flat_map (kind_lines results) every_kind)
