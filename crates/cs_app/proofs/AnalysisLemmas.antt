-- The functions of a program that are analyzed, and their results: for the functions that analyze a program.
use Rattle.std.proofs.Common.{◌≡◌, ℕ, ◌+◌, ◌<◌, zero, suc, Bool, cond, List, [], ◌∷◌, ◌++◌, map, length, Option, Some}
use Rattle.std.proofs.Common.{None}
use Rattle.std.proofs.Common.{get_or, take, sym, ap, ◌∙◌, subst, arith}
use Rattle.std.specs.Prelude.{filter, is_some, option_map, slice_get, unwrap_or, codes}
use Rattle.std.specs.List.{range_with_len}
use Rattle.std.proofs.lemmas.List.{length-map, get_or-map, map-append, take_more}
use Rattle.std.proofs.lemmas.List.Elements.{All-append, filter-append}
use Rattle.std.proofs.lemmas.Option.{unwrap_or-slice_get}
use Rattle.cs_ast.specs.declared.typed.program.Function.{Function}
use Rattle.cs_ast.specs.declared.typed.program.Program.{Program}
use Rattle.cs_ast.specs.TypedProgram.{TypedProgram, Routine, routine, typed_program}
use Rattle.cs_findings.specs.EveryRun.{MissesNothing}
use Rattle.cs_findings.specs.OutOfNodes.{HasReasons}
use Rattle.cs_findings.specs.GoodEntries.{IsGoodEntry}
use Rattle.cs_meaning.specs.Machine.{NOWHERE, no_routine}
use Rattle.cs_model.specs.declared.kind.Kind.{Kind}
use Rattle.cs_results.specs.declared.budgets.Budgets.{Budgets}
use Rattle.cs_results.specs.declared.result.EntryResult.{EntryResult}
use Rattle.cs_results.specs.Selected.{lists_report}
use Rattle.cs_words.specs.declared.command.AnalyzeWords.{AnalyzeWords}
use Rattle.cs_app.specs.Analyses.{has_body, bodies, entries_named, LacksEntry, AreGoodResults}
use Rattle.cs_checker.specs.Kinds.{AreAllKinds}
use Rattle.cs_app.specs.Analyses.{IsAnalysis, IsAnalysisAnswer}
use Rattle.cs_entries.specs.Named.{entry_of}
use Rattle.cs_answers.specs.declared.status.Status.{Status}
use Rattle.cs_answers.specs.declared.status.Status.TheVariants.{NoEntry}
use Rattle.cs_app.proofs.AnswerLemmas.{no_analysis}

-- one more number
range_more : (a n : ℕ) → range_with_len a (suc n) ≡ range_with_len a n ++ (a + n) ∷ []
range_more a zero = ap (λ (k : ℕ). k ∷ []) (omega arith)
range_more a (suc n) =
    ap (λ (rest : List ℕ). a ∷ rest) (range_more (a + 1) n ∙ ap (λ (k : ℕ). range_with_len (a + 1) n ++ k ∷ []) (omega arith))

-- the functions with a body, with one more function
pub bodies_more : (program : TypedProgram) (n : ℕ)
    → filter (has_body program) (range_with_len 0 (n + 1))
    ≡ filter (has_body program) (range_with_len 0 n) ++ cond (has_body program n) (n ∷ []) []
bodies_more program n =
    let next : n + 1 ≡ suc n = omega arith in
    let zero_more : 0 + n ≡ n = omega arith in
    ap (λ (k : ℕ). filter (has_body program) (range_with_len 0 k)) next ∙ ap (filter (has_body program)) (range_more 0 n)
    ∙ ap (λ (k : ℕ). filter (has_body program) (range_with_len 0 n ++ k ∷ [])) zero_more
    ∙ filter-append (has_body program) (range_with_len 0 n) (n ∷ [])

-- all of them
pub all_bodies : (p : Program) → filter (has_body (typed_program p)) (range_with_len 0 (length p.functions.items)) ≡ bodies (typed_program p)
all_bodies p = ap (λ (n : ℕ). filter (has_body (typed_program p)) (range_with_len 0 n)) (sym (length-map p.functions.items routine))

-- a function has a body exactly if the program's has one
body_at : (functions : List Function) (n : ℕ) (item : Function) → n < length functions → item ≡ get_or functions n item
    → is_some (unwrap_or (slice_get (map routine functions) n) (no_routine NOWHERE)).body ≡ is_some (routine item).body
body_at functions n item there is = ap (λ (r : Routine). is_some r.body)
    (unwrap_or-slice_get (map routine functions) n (no_routine NOWHERE) ∙ get_or-map routine functions n item (no_routine NOWHERE) there
    ∙ ap routine (sym is))

-- one more function was examined
pub body_added : (p : Program) (n : ℕ) (item : Function) (old new : List ℕ) → n < length p.functions.items → item ≡ get_or p.functions.items n item
    → old ≡ filter (has_body (typed_program p)) (range_with_len 0 n) → new ≡ old ++ cond (is_some (routine item).body) (n ∷ []) []
    → new ≡ filter (has_body (typed_program p)) (range_with_len 0 (n + 1))
body_added p n item old new there is so_far added =
    added ∙ ap (λ (list : List ℕ). list ++ cond (is_some (routine item).body) (n ∷ []) []) so_far
    ∙ ap (λ (b : Bool). filter (has_body (typed_program p)) (range_with_len 0 n) ++ cond b (n ∷ []) []) (sym (body_at p.functions.items n item there is))
    ∙ sym (bodies_more (typed_program p) n)

-- what holds for one result holds for all of a list of it
alone : (P : EntryResult → Type 0) (one : EntryResult) → P one → (k : ℕ) (d : EntryResult) → k < 1 → P (get_or (one ∷ []) k d)
alone P one holds zero d below = holds
alone P one holds (suc k) d below = absurd (omega (arith, below))

-- one more result
pub results_more : (checked : List Kind) (program : TypedProgram) (budgets : Budgets) (entries : List ℕ) (results : List EntryResult) (i d : ℕ)
    (one : EntryResult) → i < length entries → AreGoodResults checked program budgets (take i entries) results → one.entry ≡ get_or entries i d
    → IsGoodEntry program budgets one → (AreAllKinds checked → MissesNothing program budgets one) → (AreAllKinds checked → HasReasons program budgets one)
    → AreGoodResults checked program budgets (take (i + 1) entries) (results ++ one ∷ [])
results_more checked program budgets entries results i d one there before named good misses explains = record {
  in_order = map-append (λ (r : EntryResult). r.entry) results (one ∷ []) ∙ ap (λ (es : List ℕ). es ++ one.entry ∷ []) before.in_order
      ∙ ap (λ (n : ℕ). take i entries ++ n ∷ []) named ∙ sym (take_more entries i d there);
  good = All-append (IsGoodEntry program budgets) results (one ∷ []) before.good (alone (IsGoodEntry program budgets) one good);
  complete = λ all. All-append (MissesNothing program budgets) results (one ∷ []) (before.complete all)
      (alone (MissesNothing program budgets) one (misses all));
  reasons = λ all. All-append (HasReasons program budgets) results (one ∷ []) (before.reasons all)
      (alone (HasReasons program budgets) one (explains all));
}

-- the function with the name is analyzed
pub entry_named : (entry : Option (List ℕ)) (name : List ℕ) (program : TypedProgram) (n : ℕ) → entry ≡ Some name → entry_of name program ≡ Some n
    → entries_named entry program ≡ Some (n ∷ [])
entry_named entry name program n is found =
    ap (λ (e : Option (List ℕ)). entries_named e program) is ∙ ap (option_map (λ (number : ℕ). number ∷ [])) found

-- an analysis is an answer
pub analysis_answers : (checked : List Kind) (words : AnalyzeWords) (program : TypedProgram) (status : Status) (text : List ℕ)
    → IsAnalysis checked words program status text → IsAnalysisAnswer checked words program status text
analysis_answers checked words program NoEntry text a =
    no_analysis NoEntry (lists_report words.kinds a.results) (λ e. cc) (λ e. cc) a.answer.yields
analysis_answers checked words program _ text a = a

-- the line that no function has the name is an answer
pub lacking_answers : (checked : List Kind) (words : AnalyzeWords) (program : TypedProgram) (status : Status) (text name : List ℕ)
    → words.entry ≡ Some name → entry_of name program ≡ None → status ≡ NoEntry → text ≡ codes "refused entry " ++ (name ++ codes "\n")
    → IsAnalysisAnswer checked words program status text
lacking_answers checked words program status text name named none is line =
    subst (λ (s : Status). IsAnalysisAnswer checked words program s text) (sym is)
    (subst (λ (e : Option (List ℕ)). LacksEntry e program text) (sym named) (none, line))
