-- The text of lines, part by part: for `append_finding`, `append_ground`, `append_other`, `append_result` and `text`.
use Rattle.std.proofs.Common.{◌≡◌, ℕ, ℤ, List, [], ◌∷◌, ◌++◌, map, length, codes, ap, ap₂, sym, ◌∙◌, refl, append_assoc, OnOk, Result, Ok, Err}
use Rattle.std.specs.List.{flat_map, filter}
use Rattle.std.specs.Fmt.{decimal}
use Rattle.cs_inputs.specs.declared.path.Path.{Path}
use Rattle.cs_ast.specs.TypedProgram.{TypedProgram}
use Rattle.cs_model.specs.declared.kind.Kind.{Kind}
use Rattle.cs_events.specs.declared.event.Event.{Event}
use Rattle.cs_events.specs.declared.guess.Guess.{Guess}
use Rattle.cs_results.specs.declared.run.Run.{Run}
use Rattle.cs_results.specs.declared.finding.Ground.{Ground}
use Rattle.cs_results.specs.declared.finding.Finding.{Finding}
use Rattle.cs_results.specs.declared.result.Cut.{Cut}
use Rattle.cs_results.specs.declared.result.EntryResult.{EntryResult}
use Rattle.cs_results.specs.Selected.{is_selected, every_kind}
use Rattle.cs_results.specs.Verdicts.{verdict_name, is_complete, is_bounded, is_cut}
use Rattle.cs_report_parts.specs.RunLines.{text_of, input_text, guess_text, function_name, step_text, step_lines}
use Rattle.cs_report.specs.AnalysisLines.{confidence, outcome_text, other_lines, ground_lines, finding_lines, cut_line, entry_lines}
use Rattle.cs_report.specs.SummaryLines.{verdicts, kind_lines, summary_text}

pub text_of-append : (lines more : List (List ℕ)) → text_of (lines ++ more) ≡ text_of lines ++ text_of more
text_of-append [] more = refl
text_of-append (line ∷ lines) more =
    ap (λ (t : List ℕ). (line ++ codes "\n") ++ t) (text_of-append lines more) ∙ simp append_assoc

pub text_of-flat_map : {X : Type 0} (f : X → List (List ℕ)) (xs : List X) → text_of (flat_map f xs) ≡ flat_map (λ x. text_of (f x)) xs
text_of-flat_map f [] = refl
text_of-flat_map f (x ∷ xs) = text_of-append (f x) (flat_map f xs) ∙ ap (λ (t : List ℕ). text_of (f x) ++ t) (text_of-flat_map f xs)

pub text_of-map : {X : Type 0} (f : X → List ℕ) (xs : List X) → text_of (map f xs) ≡ flat_map (λ x. f x ++ codes "\n") xs
text_of-map f [] = refl
text_of-map f (x ∷ xs) = ap (λ (t : List ℕ). (f x ++ codes "\n") ++ t) (text_of-map f xs)

-- ---- two pieces that were printed one after the other
pub two_pieces : {E : Type 0} (r : Result (Unit {0}) E) (text first second a b whole : List ℕ) → first ≡ text ++ a → OnOk r (second ≡ first ++ b)
    → whole ≡ a ++ b → OnOk r (second ≡ text ++ whole)
two_pieces (Ok x) text first second a b whole one two is = rw (two, one, is) (append_assoc text a b)
two_pieces (Err e) text first second a b whole one two is = tt

-- ---- the text of the parts of results
pub other_text : (number : ℕ) (run : Run) → text_of (other_lines number run)
    ≡ flat_map (λ (input : Path × ℤ). (codes "    other " ++ decimal number ++ codes " " ++ input_text input) ++ codes "\n") run.inputs
    ++ flat_map (λ (guess : Guess). (codes "    other " ++ decimal number ++ codes " " ++ guess_text guess) ++ codes "\n") run.guesses.items
other_text number run =
    let inputs : List (List ℕ) = map (λ (input : Path × ℤ). codes "    other " ++ decimal number ++ codes " " ++ input_text input) run.inputs in
    let guesses : List (List ℕ) = map (λ (guess : Guess). codes "    other " ++ decimal number ++ codes " " ++ guess_text guess) run.guesses.items in
    text_of-append inputs guesses
    ∙ ap₂ (λ (a b : List ℕ). a ++ b)
    (text_of-map (λ (input : Path × ℤ). codes "    other " ++ decimal number ++ codes " " ++ input_text input) run.inputs)
    (text_of-map (λ (guess : Guess). codes "    other " ++ decimal number ++ codes " " ++ guess_text guess) run.guesses.items)

three_lists : (line : List ℕ) (one two three : List (List ℕ)) (a b c : List ℕ) → text_of one ≡ a → text_of two ≡ b → text_of three ≡ c
    → text_of (line ∷ one ++ two ++ three) ≡ (line ++ codes "\n") ++ (a ++ (b ++ c))
three_lists line one two three a b c x y z =
    text_of-append (line ∷ one ++ two) three ∙ ap (λ (t : List ℕ). t ++ text_of three) (text_of-append (line ∷ one) two) ∙ rw (x, y, z) (simp append_assoc)

joined_finding : (text first second third fourth fifth out sure c d e : List ℕ) → first ≡ text ++ out
    → second ≡ first ++ (codes " " ++ (sure ++ codes "\n")) → third ≡ second ++ c → fourth ≡ third ++ d → fifth ≡ fourth ++ e
    → fifth ≡ text ++ (((out ++ codes " " ++ sure) ++ codes "\n") ++ (c ++ (d ++ e)))
joined_finding text first second third fourth fifth out sure c d e one two three four five = rw (five, four, three, two, one) (simp append_assoc)

joined_entry : (text first second third fourth fifth sixth name word d e f : List ℕ) → first ≡ text ++ codes "entry " → second ≡ first ++ name
    → third ≡ second ++ (codes " " ++ (word ++ codes "\n")) → fourth ≡ third ++ d → fifth ≡ fourth ++ e → sixth ≡ fifth ++ f
    → sixth ≡ text ++ (((codes "entry " ++ name ++ codes " " ++ word) ++ codes "\n") ++ (d ++ (e ++ f)))
joined_entry text first second third fourth fifth sixth name word d e f one two three four five six =
    rw (six, five, four, three, two, one) (simp append_assoc)

pub finding_text : (program : TypedProgram) (finding : Finding) → text_of (finding_lines program finding)
    ≡ ((outcome_text program.files finding.what ++ codes " " ++ confidence finding.run.guesses.items) ++ codes "\n")
    ++ (flat_map (λ (input : Path × ℤ). codes "  input " ++ input_text input ++ codes "\n") finding.run.inputs
    ++ (flat_map (λ (reason : Ground). text_of (ground_lines program.files reason)) finding.grounds.items
    ++ flat_map (λ (event : Event). text_of (step_lines program.files event.place (step_text program event.label))) finding.events.items))
finding_text program finding =
    three_lists (outcome_text program.files finding.what ++ codes " " ++ confidence finding.run.guesses.items)
    (map (λ (input : Path × ℤ). codes "  input " ++ input_text input) finding.run.inputs)
    (flat_map (ground_lines program.files) finding.grounds.items)
    (flat_map (λ (event : Event). step_lines program.files event.place (step_text program event.label)) finding.events.items) _ _ _
    (text_of-map (λ (input : Path × ℤ). codes "  input " ++ input_text input) finding.run.inputs)
    (text_of-flat_map (ground_lines program.files) finding.grounds.items)
    (text_of-flat_map (λ (event : Event). step_lines program.files event.place (step_text program event.label)) finding.events.items)

pub entry_text : (program : TypedProgram) (kinds : List Kind) (result : EntryResult) → text_of (entry_lines program kinds result)
    ≡ ((codes "entry " ++ function_name program result.entry ++ codes " " ++ verdict_name result.verdict) ++ codes "\n")
    ++ (flat_map (λ (f : Finding). text_of (finding_lines program f)) (filter (λ (f : Finding). is_selected kinds f.what) result.reports.items)
    ++ (flat_map (λ (f : Finding). text_of (finding_lines program f)) result.overs.items
    ++ flat_map (λ (cut : Cut). cut_line program.files cut ++ codes "\n") result.cuts.items))
entry_text program kinds result =
    three_lists (codes "entry " ++ function_name program result.entry ++ codes " " ++ verdict_name result.verdict)
    (flat_map (finding_lines program) (filter (λ (f : Finding). is_selected kinds f.what) result.reports.items))
    (flat_map (finding_lines program) result.overs.items) (map (cut_line program.files) result.cuts.items) _ _ _
    (text_of-flat_map (finding_lines program) (filter (λ (f : Finding). is_selected kinds f.what) result.reports.items))
    (text_of-flat_map (finding_lines program) result.overs.items) (text_of-map (cut_line program.files) result.cuts.items)

-- ---- a finding and an entry, piece by piece
pub finding_pieces : {E : Type 0} (r : Result (Unit {0}) E) (program : TypedProgram) (finding : Finding) (text first second third fourth fifth : List ℕ)
    → first ≡ text ++ outcome_text program.files finding.what
    → second ≡ first ++ (codes " " ++ (confidence finding.run.guesses.items ++ codes "\n"))
    → third ≡ second ++ flat_map (λ (input : Path × ℤ). codes "  input " ++ input_text input ++ codes "\n") finding.run.inputs
    → fourth ≡ third ++ flat_map (λ (reason : Ground). text_of (ground_lines program.files reason)) finding.grounds.items
    → OnOk r (fifth ≡ fourth
    ++ flat_map (λ (event : Event). text_of (step_lines program.files event.place (step_text program event.label))) finding.events.items)
    → OnOk r (fifth ≡ text ++ text_of (finding_lines program finding))
finding_pieces (Ok x) program finding text first second third fourth fifth one two three four five =
    joined_finding text first second third fourth fifth (outcome_text program.files finding.what) (confidence finding.run.guesses.items) _ _ _ one two three
    four five ∙ ap (λ (t : List ℕ). text ++ t) (sym (finding_text program finding))
finding_pieces (Err e) program finding text first second third fourth fifth one two three four five = tt

pub entry_pieces : {E : Type 0} (r : Result (Unit {0}) E) (program : TypedProgram) (kinds : List Kind) (result : EntryResult)
    (text first second third fourth fifth sixth : List ℕ) → first ≡ text ++ codes "entry " → second ≡ first ++ function_name program result.entry
    → third ≡ second ++ (codes " " ++ (verdict_name result.verdict ++ codes "\n"))
    → fourth ≡ third ++ flat_map (λ (f : Finding). text_of (finding_lines program f)) (filter (λ (f : Finding). is_selected kinds f.what) result.reports.items)
    → fifth ≡ fourth ++ flat_map (λ (f : Finding). text_of (finding_lines program f)) result.overs.items
    → OnOk r (sixth ≡ fifth ++ flat_map (λ (cut : Cut). cut_line program.files cut ++ codes "\n") result.cuts.items)
    → OnOk r (sixth ≡ text ++ text_of (entry_lines program kinds result))
entry_pieces (Ok x) program kinds result text first second third fourth fifth sixth one two three four five six =
    joined_entry text first second third fourth fifth sixth (function_name program result.entry) (verdict_name result.verdict) _ _ _ one two three four five
    six ∙ ap (λ (t : List ℕ). text ++ t) (sym (entry_text program kinds result))
entry_pieces (Err e) program kinds result text first second third fourth fifth sixth one two three four five six = tt

-- ---- the counts of a summary
counts_text : (bytes entries complete bounded cut : ℕ) (kinds : List ℕ) → List ℕ
counts_text bytes entries complete bounded cut kinds = (codes "bytes " ++ (decimal bytes ++ codes "\n"))
    ++ ((codes "entries " ++ (decimal entries ++ codes "\n")) ++ ((codes "complete " ++ (decimal complete ++ codes "\n"))
    ++ ((codes "bounded " ++ (decimal bounded ++ codes "\n")) ++ ((codes "cut " ++ (decimal cut ++ codes "\n")) ++ kinds))))

pub summary_pieces : (bytes : ℕ) (results : List EntryResult) (complete bounded cut : ℕ) → complete ≡ verdicts is_complete results
    → bounded ≡ verdicts is_bounded results → cut ≡ verdicts is_cut results
    → (codes "bytes " ++ (decimal bytes ++ codes "\n"))
    ++ ((codes "entries " ++ (decimal (length results) ++ codes "\n")) ++ ((codes "complete " ++ (decimal complete ++ codes "\n"))
    ++ ((codes "bounded " ++ (decimal bounded ++ codes "\n")) ++ ((codes "cut " ++ (decimal cut ++ codes "\n"))
    ++ flat_map (λ (kind : Kind). text_of (kind_lines results kind)) every_kind)))) ≡ summary_text bytes results
unfolding counts_text
summary_pieces bytes results complete bounded cut x y z =
    λ i. counts_text bytes (length results) (x i) (y i) (z i) (sym (text_of-flat_map (kind_lines results) every_kind) i)
