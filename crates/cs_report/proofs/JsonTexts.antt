-- Results as JSON have no float, so their text is the compact text: for `json`.
use Rattle.std.proofs.Common.{◌≡◌, ℕ, ℤ, pos, negsuc, Bool, true, false, cond, Option, Some, None, List, [], ◌∷◌, ◌++◌, map, refl}
use Rattle.std.specs.Prelude.{◌||◌}
use Rattle.std.specs.List.{flat_map, filter}
use Rattle.std.specs.Fmt.{signed_decimal}
use Rattle.serde_json.specs.Data.{Data, string, number}
use Rattle.serde_json.specs.Find.{of_integer}
use Rattle.serde_json.specs.View.{items_of}
use Rattle.serde_json.specs.Written.{has_float, items_have_float}
use Rattle.cs_inputs.specs.declared.path.Path.{Path}
use Rattle.cs_ast.specs.declared.place.Place.{Place}
use Rattle.cs_ast.specs.TypedProgram.{TypedProgram}
use Rattle.cs_model.specs.declared.kind.Kind.{Kind}
use Rattle.cs_events.specs.declared.event.Event.{Event}
use Rattle.cs_events.specs.declared.guess.Guess.{Guess}
use Rattle.cs_events.specs.declared.outcome.Outcome.{Outcome}
use Rattle.cs_events.specs.declared.outcome.Outcome.TheVariants.{Done, Fault, Over}
use Rattle.cs_results.specs.declared.run.Run.{Run}
use Rattle.cs_results.specs.declared.run.Others.{Others}
use Rattle.cs_results.specs.declared.run.Others.TheVariants.{One, Two}
use Rattle.cs_results.specs.declared.finding.Ground.{Ground}
use Rattle.cs_results.specs.declared.finding.Finding.{Finding}
use Rattle.cs_results.specs.declared.result.Cut.{Cut}
use Rattle.cs_results.specs.declared.result.Cut.TheVariants.{Nodes, Splits}
use Rattle.cs_results.specs.declared.result.EntryResult.{EntryResult}
use Rattle.cs_results.specs.Selected.{is_selected}
use Rattle.cs_report_parts.specs.RunLines.{step_text}
use Rattle.cs_report_parts.specs.RunJson.{fits, integer, list, input_json, inputs_json, guess_json, run_json}
use Rattle.cs_report.specs.AnalysisJson.{others_json, ground_json, grounds_json, step_json}
use Rattle.cs_report.specs.AnalysisJson.{steps_json, finding_json, finding_of, is_confirmed, cut_json, entry_json, analysis_json}

-- ---- numbers and lists
of_integer_exact : (z : ℤ) → has_float (number (of_integer z)) ≡ false
of_integer_exact (pos n) = refl
of_integer_exact (negsuc n) = refl

chosen : (b : Bool) (z : ℤ) → has_float (cond b (number (of_integer z)) (string (signed_decimal z))) ≡ false
chosen true z = of_integer_exact z
chosen false z = refl

integer_exact : (z : ℤ) → has_float (integer z) ≡ false
integer_exact z = chosen (fits z) z

neither : (a b : Bool) → a ≡ false → b ≡ false → (a || b) ≡ false
neither true b x y = x
neither false b x y = y

module _ {X : Type 0} where
  each_exact : (f : X → Data) → ((x : X) → has_float (f x) ≡ false) → (xs : List X) → items_have_float (items_of (map f xs)) ≡ false
  each_exact f exact [] = refl
  each_exact f exact (x ∷ xs) = neither (has_float (f x)) (items_have_float (items_of (map f xs))) (exact x) (each_exact f exact xs)

-- ---- the parts of results
input_exact : (input : Path × ℤ) → has_float (input_json input) ≡ false
input_exact input = neither (has_float (integer input.1)) false (integer_exact input.1) refl

guess_exact : (guess : Guess) → has_float (guess_json guess) ≡ false
guess_exact guess = neither (has_float (integer guess.number)) false (integer_exact guess.number) refl

run_exact : (run : Run) → has_float (run_json run) ≡ false
run_exact run = neither (has_float (list (map guess_json run.guesses.items))) _ (each_exact guess_json guess_exact run.guesses.items)
    (neither (has_float (inputs_json run.inputs)) false (each_exact input_json input_exact run.inputs) refl)

others_exact : (others : Others Run) → has_float (others_json others) ≡ false
others_exact (One first) = neither (has_float (run_json first)) false (run_exact first) refl
others_exact (Two first second) = neither (has_float (run_json first)) _ (run_exact first) (neither (has_float (run_json second)) false (run_exact second) refl)

ground_exact : (files : List (List ℕ)) (reason : Ground) → has_float (ground_json files reason) ≡ false
ground_exact files reason =
    neither (has_float (integer reason.guess.number)) _ (integer_exact reason.guess.number)
    (neither (has_float (others_json reason.others)) false (others_exact reason.others) refl)

step_exact : (files : List (List ℕ)) (at : Place) (text : Option (List ℕ)) (rest : List Data) → items_have_float (items_of rest) ≡ false
    → items_have_float (items_of (step_json files at text ++ rest)) ≡ false
step_exact files at None rest exact = exact
step_exact files at (Some text) rest exact = exact

steps_exact : (program : TypedProgram) (events : List Event) → has_float (steps_json program events) ≡ false
steps_exact program [] = refl
steps_exact program (event ∷ events) =
    step_exact program.files event.place (step_text program event.label)
    (flat_map (λ (e : Event). step_json program.files e.place (step_text program e.label)) events) (steps_exact program events)

parts_exact : (what : Outcome) (files : List (List ℕ)) (confirmed : Bool) (guesses inputs steps : Data) → has_float guesses ≡ false
    → has_float inputs ≡ false → has_float steps ≡ false → has_float (finding_of what files confirmed guesses inputs steps) ≡ false
parts_exact (Fault kind at) files confirmed guesses inputs steps g i s =
    neither (has_float guesses) _ g (neither (has_float inputs) _ i (neither (has_float steps) false s refl))
parts_exact (Over budget at) files confirmed guesses inputs steps g i s =
    neither (has_float guesses) _ g (neither (has_float inputs) _ i (neither (has_float steps) false s refl))
parts_exact (Done returned) files confirmed guesses inputs steps g i s = refl

finding_exact : (program : TypedProgram) (finding : Finding) → has_float (finding_json program finding) ≡ false
finding_exact program finding =
    parts_exact finding.what program.files (is_confirmed finding.run.guesses.items) (grounds_json program.files finding.grounds.items)
    (inputs_json finding.run.inputs) (steps_json program finding.events.items)
    (each_exact (ground_json program.files) (ground_exact program.files) finding.grounds.items) (each_exact input_json input_exact finding.run.inputs)
    (steps_exact program finding.events.items)

cut_exact : (files : List (List ℕ)) (cut : Cut) → has_float (cut_json files cut) ≡ false
cut_exact files (Nodes nodes) = refl
cut_exact files (Splits at offsets) = refl

entry_exact : (program : TypedProgram) (kinds : List Kind) (result : EntryResult) → has_float (entry_json program kinds result) ≡ false
entry_exact program kinds result =
    neither (has_float (list (map (cut_json program.files) result.cuts.items))) _
    (each_exact (cut_json program.files) (cut_exact program.files) result.cuts.items)
    (neither (has_float (list (map (finding_json program) result.overs.items))) _
    (each_exact (finding_json program) (finding_exact program) result.overs.items)
    (neither (has_float (list (map (finding_json program) (filter (λ (f : Finding). is_selected kinds f.what) result.reports.items)))) false
    (each_exact (finding_json program) (finding_exact program) (filter (λ (f : Finding). is_selected kinds f.what) result.reports.items)) refl))

pub no_floats : (program : TypedProgram) (kinds : List Kind) (results : List EntryResult) → has_float (analysis_json program kinds results) ≡ false
no_floats program kinds results =
    neither (has_float (list (map (entry_json program kinds) results))) false (each_exact (entry_json program kinds) (entry_exact program kinds) results) refl
