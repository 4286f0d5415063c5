-- The lines that an analysis prints. For each entry they are its verdict, its selected reports, the budgets that its runs exceed, and its cuts.
use Rattle.std.specs.Prelude.{ℕ, ℤ, List, [], ◌∷◌, ◌++◌, map, codes}
use Rattle.std.specs.List.{flat_map, filter}
use Rattle.std.specs.Fmt.{decimal}
use Rattle.cs_inputs.specs.declared.path.Path.{Path}
use Rattle.cs_ast.specs.TypedProgram.{TypedProgram}
use Rattle.cs_model.specs.declared.kind.Kind.{Kind}
use Rattle.cs_model.specs.Kinds.{kind_name}
use Rattle.cs_model.specs.Places.{place_text}
use Rattle.cs_events.specs.declared.event.Event.{Event}
use Rattle.cs_events.specs.declared.guess.Guess.{Guess}
use Rattle.cs_events.specs.declared.outcome.Outcome.{Outcome}
use Rattle.cs_events.specs.declared.outcome.Outcome.TheVariants.{Done, Fault, Over}
use Rattle.cs_events.specs.Budgets.{budget_name}
use Rattle.cs_results.specs.declared.run.Run.{Run}
use Rattle.cs_results.specs.declared.run.Others.{Others}
use Rattle.cs_results.specs.declared.run.Others.TheVariants.{One, Two}
use Rattle.cs_results.specs.declared.finding.Ground.{Ground}
use Rattle.cs_results.specs.declared.finding.Finding.{Finding}
use Rattle.cs_results.specs.declared.result.Cut.{Cut}
use Rattle.cs_results.specs.declared.result.Cut.TheVariants.{Nodes, Splits}
use Rattle.cs_results.specs.declared.result.EntryResult.{EntryResult}
use Rattle.cs_results.specs.Selected.{is_selected}
use Rattle.cs_results.specs.Verdicts.{verdict_name}
use Rattle.cs_report_parts.specs.RunLines.{text_of, input_text, guess_text, function_name, step_text, step_lines}

-- a finding is confirmed if its run lists no guess
abbrev pub confidence : List Guess → List ℕ
confidence [] = codes "confirmed"
confidence (guess ∷ guesses) = codes "assumed"

-- `report KIND PLACE` or `over BUDGET PLACE`
abbrev pub outcome_text : List (List ℕ) → Outcome → List ℕ
outcome_text files (Fault kind at) = codes "report " ++ kind_name kind ++ codes " " ++ place_text files at
outcome_text files (Over budget at) = codes "over " ++ budget_name budget ++ codes " " ++ place_text files at
outcome_text files (Done returned) = []

-- the inputs of another run of a ground, then its guesses, with the run's number among the other runs
abbrev pub other_lines : ℕ → Run → List (List ℕ)
other_lines number run = map (λ (input : Path × ℤ). codes "    other " ++ decimal number ++ codes " " ++ input_text input) run.inputs
    ++ map (λ (guess : Guess). codes "    other " ++ decimal number ++ codes " " ++ guess_text guess) run.guesses.items

abbrev pub others_lines : Others Run → List (List ℕ)
others_lines (One first) = other_lines 1 first
others_lines (Two first second) = other_lines 1 first ++ other_lines 2 second

-- a guess, followed by the other runs that are its ground
abbrev pub ground_lines : List (List ℕ) → Ground → List (List ℕ)
ground_lines files reason = (codes "  " ++ guess_text reason.guess ++ codes " at " ++ place_text files reason.place) ∷ others_lines reason.others

-- a finding: its outcome, its inputs, its guesses with their grounds, its steps
abbrev pub finding_lines : TypedProgram → Finding → List (List ℕ)
finding_lines program finding =
    (outcome_text program.files finding.what ++ codes " " ++ confidence finding.run.guesses.items)
    ∷ map (λ (input : Path × ℤ). codes "  input " ++ input_text input) finding.run.inputs
    ++ flat_map (ground_lines program.files) finding.grounds.items
    ++ flat_map (λ (event : Event). step_lines program.files event.place (step_text program event.label)) finding.events.items

-- `cut nodes R` or `cut splits PLACE N`
abbrev pub cut_line : List (List ℕ) → Cut → List ℕ
cut_line files (Nodes nodes) = codes "cut nodes " ++ decimal nodes
cut_line files (Splits at offsets) = codes "cut splits " ++ place_text files at ++ codes " " ++ decimal offsets

-- an entry: its verdict, its reports of these kinds, the met budgets, the cuts
abbrev pub entry_lines : TypedProgram → List Kind → EntryResult → List (List ℕ)
entry_lines program kinds result = (codes "entry " ++ function_name program result.entry ++ codes " " ++ verdict_name result.verdict)
    ∷ flat_map (finding_lines program) (filter (λ (f : Finding). is_selected kinds f.what) result.reports.items)
    ++ flat_map (finding_lines program) result.overs.items ++ map (cut_line program.files) result.cuts.items

-- the text of an analysis
abbrev pub analysis_text : TypedProgram → List Kind → List EntryResult → List ℕ
analysis_text program kinds results = text_of (flat_map (entry_lines program kinds) results)
