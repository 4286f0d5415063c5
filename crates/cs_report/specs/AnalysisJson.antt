-- The JSON form of an analysis: one object, with the keys of each object in the order of their bytes.
use Rattle.std.specs.Prelude.{ℕ, Bool, true, false, Option, Some, None, List, [], ◌∷◌, ◌++◌, map, codes}
use Rattle.std.specs.List.{flat_map, filter}
use Rattle.serde_json.specs.Data.{Data, null, boolean, number, unsigned, string, object, no_members, member}
use Rattle.serde_json.specs.Written.{compact_text}
use Rattle.cs_ast.specs.declared.place.Place.{Place}
use Rattle.cs_ast.specs.TypedProgram.{TypedProgram}
use Rattle.cs_model.specs.declared.kind.Kind.{Kind}
use Rattle.cs_model.specs.Kinds.{kind_name}
use Rattle.cs_model.specs.Places.{place_text}
use Rattle.cs_events.specs.declared.event.Event.{Event}
use Rattle.cs_events.specs.declared.guess.Guess.{Guess}
use Rattle.cs_events.specs.declared.outcome.Outcome.{Outcome}
use Rattle.cs_events.specs.declared.outcome.Outcome.TheVariants.{Done, Fault, Over}
use Rattle.cs_events.specs.Budgets.{budget_name}
use Rattle.cs_results.specs.declared.run.Run.{Run}
use Rattle.cs_results.specs.declared.run.Others.{Others}
use Rattle.cs_results.specs.declared.run.Others.TheVariants.{One, Two}
use Rattle.cs_results.specs.declared.finding.Ground.{Ground}
use Rattle.cs_results.specs.declared.finding.Finding.{Finding}
use Rattle.cs_results.specs.declared.result.Cut.{Cut}
use Rattle.cs_results.specs.declared.result.Cut.TheVariants.{Nodes, Splits}
use Rattle.cs_results.specs.declared.result.EntryResult.{EntryResult}
use Rattle.cs_results.specs.Selected.{is_selected}
use Rattle.cs_results.specs.Verdicts.{verdict_name}
use Rattle.cs_report_parts.specs.RunLines.{function_name, step_text}
use Rattle.cs_report_parts.specs.RunJson.{text, integer, list, inputs_json, run_json}

abbrev pub others_json : Others Run → Data
others_json (One first) = list (run_json first ∷ [])
others_json (Two first second) = list (run_json first ∷ run_json second ∷ [])

-- a guess with the other runs that are its ground
abbrev pub ground_json : List (List ℕ) → Ground → Data
ground_json files reason = object (member (codes "at") (text (place_text files reason.place))
    (member (codes "event") (number (unsigned reason.guess.event))
    (member (codes "number") (integer reason.guess.number)
    (member (codes "others") (others_json reason.others) no_members))))

abbrev pub grounds_json : List (List ℕ) → List Ground → Data
grounds_json files grounds = list (map (ground_json files) grounds)

-- a step is a pair of its position and what it shows
abbrev pub step_json : List (List ℕ) → Place → Option (List ℕ) → List Data
step_json files at None = []
step_json files at (Some step) = list (text (place_text files at) ∷ text step ∷ []) ∷ []

abbrev pub steps_json : TypedProgram → List Event → Data
steps_json program events = list (flat_map (λ (event : Event). step_json program.files event.place (step_text program event.label)) events)

-- a finding is confirmed if its run lists no guess
abbrev pub is_confirmed : List Guess → Bool
is_confirmed [] = true
is_confirmed (guess ∷ guesses) = false

-- a finding: a report has a kind, a met budget has a budget
abbrev pub finding_of : Outcome → List (List ℕ) → (confirmed : Bool) (guesses inputs steps : Data) → Data
finding_of (Fault kind at) files confirmed guesses inputs steps = object (member (codes "at") (text (place_text files at))
    (member (codes "confirmed") (boolean confirmed) (member (codes "guesses") guesses (member (codes "inputs") inputs
    (member (codes "kind") (string (kind_name kind)) (member (codes "steps") steps no_members))))))
finding_of (Over budget at) files confirmed guesses inputs steps = object (member (codes "at") (text (place_text files at))
    (member (codes "budget") (string (budget_name budget)) (member (codes "confirmed") (boolean confirmed) (member (codes "guesses") guesses
    (member (codes "inputs") inputs (member (codes "steps") steps no_members))))))
finding_of (Done returned) files confirmed guesses inputs steps = null

abbrev pub finding_json : TypedProgram → Finding → Data
finding_json program finding = finding_of finding.what program.files (is_confirmed finding.run.guesses.items)
    (grounds_json program.files finding.grounds.items) (inputs_json finding.run.inputs) (steps_json program finding.events.items)

abbrev pub cut_json : List (List ℕ) → Cut → Data
cut_json files (Nodes nodes) = object (member (codes "nodes") (number (unsigned nodes)) no_members)
cut_json files (Splits at offsets) =
    object (member (codes "at") (text (place_text files at)) (member (codes "splits") (number (unsigned offsets)) no_members))

-- an entry with these parts
abbrev pub entry_of : (cuts name overs reports : Data) (verdict : List ℕ) → Data
entry_of cuts name overs reports verdict = object (member (codes "cuts") cuts (member (codes "entry") name (member (codes "overs") overs
    (member (codes "reports") reports (member (codes "verdict") (string verdict) no_members)))))

-- an entry, with its reports of these kinds
abbrev pub entry_json : TypedProgram → List Kind → EntryResult → Data
entry_json program kinds result = entry_of (list (map (cut_json program.files) result.cuts.items)) (text (function_name program result.entry))
    (list (map (finding_json program) result.overs.items))
    (list (map (finding_json program) (filter (λ (f : Finding). is_selected kinds f.what) result.reports.items))) (verdict_name result.verdict)

abbrev pub analysis_json : TypedProgram → List Kind → List EntryResult → Data
analysis_json program kinds results = object (member (codes "entries") (list (map (entry_json program kinds) results)) no_members)

-- the JSON text of an analysis: the compact text of its value, and a line feed
abbrev pub analysis_json_text : TypedProgram → List Kind → List EntryResult → List ℕ
analysis_json_text program kinds results = compact_text (analysis_json program kinds results) ++ codes "\n"
