-- The only whole text for an accepted file is that of an answer: for the clause of the top call that states which files are
-- answered.
use Rattle.std.proofs.Common.{◌≡◌, ℕ, List, [], ◌∷◌, Option, Some, None, inl, inr, sym, ap, ◌∙◌, subst, arith}
use Rattle.std.specs.Prelude.{option_map}
use Rattle.std.specs.Io.KnownBytes.{Appends}
use Rattle.cs_types.specs.declared.data_model.DataModel.{DataModel}
use Rattle.cs_model.specs.declared.kind.Kind.{Kind}
use Rattle.cs_ast.specs.declared.place.Place.{Place}
use Rattle.cs_ast.specs.declared.raw.external.RawExternal.{RawExternal}
use Rattle.cs_ast.specs.TypedProgram.{TypedProgram}
use Rattle.cs_lexer.specs.declared.lexer.Lexed.{Lexed}
use Rattle.cs_lexer.proofs.OneLexing.{lexed_once, lexed_or_refused}
use Rattle.cs_decl_parser.specs.Files.{parts_of, IsTheFile}
use Rattle.cs_scopes.specs.declared.refusal.TypeCode.{TypeCode}
use Rattle.cs_scopes.specs.Verdicts.{Verdict, Fine, Fault}
use Rattle.cs_results.specs.Selected.{every_kind, lists_report}
use Rattle.cs_words.specs.declared.command.Command.{Command}
use Rattle.cs_words.specs.declared.command.AnalyzeWords.{AnalyzeWords}
use Rattle.cs_words.specs.declared.command.ReplayWords.{ReplayWords}
use Rattle.cs_words.specs.declared.command.Command.TheVariants.{Analyze, Flow, Replay, Generate}
use Rattle.cs_program.specs.Trees.{Parses, HasProgram, typed_tree}
use Rattle.cs_entries.specs.Named.{entry_of}
use Rattle.cs_commands.specs.Refusals.{IsLexLine, IsSyntaxLine, type_line, IsRefusal, too_long, by_lexing, by_syntax, by_type}
use Rattle.cs_answers.specs.declared.status.Status.{Status}
use Rattle.cs_answers.specs.declared.status.Status.TheVariants.{BadFile, NoEntry}
use Rattle.cs_app.specs.Analyses.{LacksEntry, IsAnalysisAnswer, entries_named}
use Rattle.cs_app.specs.Answers.{IsProgramAnswer, Accepts, IsAnswer, IsLeft, IsFileAnswer, IsAnswered, Suits, IsAcceptable, model_of}
use Rattle.cs_commands.specs.Replays.{IsReplayAnswer}
use Rattle.cs_app.specs.Answers.{IsTypeRefused, refused_line, IsRefusedWith}
use Rattle.cs_app.proofs.AnswerLemmas.{yields_answer, outcome_answers}
use Rattle.cs_app.specs.Laws.{RefusedIsNotAccepted, TreesAreRefusedByTypes}
use Rattle.cs_decl_parser.proofs.WholeFiles.{file_or_refused}
use Rattle.cs_program.proofs.OneTyping.{one_typing}

-- a verdict isn't both a program and an error
not_both : (verdict : Verdict TypedProgram) (program : TypedProgram) (code : TypeCode) (place : Place) → verdict ≡ Fine program
    → verdict ≡ Fault code place → ⊥
not_both verdict program code place fine fault = cc

one_program : (verdict : Verdict TypedProgram) (one other : TypedProgram) → verdict ≡ Fine one → verdict ≡ Fine other → one ≡ other
one_program verdict one other is also = cc

-- a verdict has only one code and one position
one_fault : (verdict : Verdict TypedProgram) (code code' : TypeCode) (place place' : Place) → verdict ≡ Fault code place
    → verdict ≡ Fault code' place' → (code' ≡ code) × (place' ≡ place)
one_fault verdict code code' place place' is also = (cc, cc)

-- a function that exists isn't missing
not_lacking : {A : Type 0} (entry : Option (List ℕ)) (program : TypedProgram) (text : List ℕ) (entries : List ℕ) → LacksEntry entry program text
    → entries_named entry program ≡ Some entries → A
not_lacking None program text entries lacks named = absurd lacks
not_lacking (Some name) program text entries lacks named =
    let both : None ≡ Some entries = sym (ap (option_map (λ (n : ℕ). n ∷ [])) lacks.0) ∙ named in
    absurd cc

analysis_is_answered : (checked : List Kind) (words : AnalyzeWords) (program : TypedProgram) (status : Status) (text : List ℕ) (entries : List ℕ)
    → entries_named words.entry program ≡ Some entries → IsAnalysisAnswer checked words program status text → IsAnswered status
analysis_is_answered checked words program NoEntry text entries named lacks = not_lacking words.entry program text entries lacks named
analysis_is_answered checked words program status text entries named answer =
    yields_answer status (lists_report words.kinds answer.results) answer.answer.yields

replay_is_answered : (files : List (List ℕ)) (program : TypedProgram) (words : ReplayWords) (status : Status) (text : List ℕ) (entry : ℕ)
    → entry_of words.entry program ≡ Some entry → IsReplayAnswer files program words status text → IsAnswered status
replay_is_answered files program words NoEntry text entry found answer =
    let both : None ≡ Some entry = sym answer.0 ∙ found in
    absurd cc
replay_is_answered files program words status text entry found answer = outcome_answers status answer.2.outcome answer.2.yields

-- a program that suits the command has an answer
program_is_answered : (checked : List Kind) (command : Command) (files : List (List ℕ)) (program : TypedProgram) (status : Status) (text : List ℕ)
    → Suits command program
    → IsProgramAnswer checked command files program status text → IsAnswered status
program_is_answered checked (Analyze words) files program status text suits answer =
    analysis_is_answered checked words program status text suits.0 suits.1 answer
program_is_answered checked (Flow words) files program status text suits answer = subst IsAnswered (sym answer.0) tt
program_is_answered checked (Replay words) files program status text suits answer =
    replay_is_answered files program words status text suits.0 suits.1 answer
program_is_answered checked (Generate words) files program status text suits answer =
    yields_answer status (lists_report every_kind answer.results) answer.yields

-- the program of a file is the one that suits the command, whatever its tree
accepted_is_answered : (checked : List Kind) (command : Command) (file : List ℕ) (lexed : Lexed) (tree : List RawExternal) (program : TypedProgram)
    (status : Status)
    (text : List ℕ) → HasProgram (model_of command) file lexed tree program → Suits command program → Accepts checked command file status text
    → IsAnswered status
accepted_is_answered checked command file lexed tree program status text h suits a =
    let again = one_typing (model_of command) file lexed a.lexed tree a.tree h.parsed a.accepted.parsed in
    let same = one_program (typed_tree (model_of command) a.lexed a.tree) program a.program (again ∙ h.typed) a.accepted.typed in
    program_is_answered checked command a.lexed.files.items a.program status text (subst (Suits command) same suits) a.answer

-- a file that parses is only refused by type checking, with the error that typing finds
pub trees_are_refused_by_types : TreesAreRefusedByTypes
trees_are_refused_by_types model file lexed tree text h (too_long long line) = absurd (omega (arith, long, h.short))
trees_are_refused_by_types model file lexed tree text h (by_lexing short refusal refused line) =
    absurd (subst (λ r. IsLexLine r text) (lexed_or_refused file lexed refusal h.has_tokens refused) line)
trees_are_refused_by_types model file lexed tree text h (by_syntax short other has refusal refused line) =
    let same = lexed_once file lexed other h.has_tokens has in
    let is_file = subst (λ list. IsTheFile list (parts_of tree)) same.list h.is_the_file in
    absurd (subst (λ r. IsSyntaxLine other.files.items r text) (file_or_refused other.list.items other.end (parts_of tree) refusal is_file refused) line)
trees_are_refused_by_types model file lexed tree text h (by_type other two i code place fault line) =
    let same = lexed_once file other lexed i.has_tokens h.has_tokens in
    (code, place, sym (one_typing model file lexed other tree two h i) ∙ fault, line ∙ ap (λ files. type_line files code place) same.files)

-- a file that has a program isn't refused
not_refused : (model : DataModel) (file : List ℕ) (lexed : Lexed) (tree : List RawExternal) (program : TypedProgram) (text : List ℕ)
    → HasProgram model file lexed tree program → IsRefusal model file text → ⊥
not_refused model file lexed tree program text h refusal =
    let by = trees_are_refused_by_types model file lexed tree text h.parsed refusal in
    not_both (typed_tree model lexed tree) program by.0 by.1 h.typed by.2

pub refused_is_not_accepted : RefusedIsNotAccepted
refused_is_not_accepted checked command file status text other refusal a =
    not_refused (model_of command) file a.lexed a.tree a.program text a.accepted refusal

suited_is_answered : (checked : List Kind) (command : Command) (file : List ℕ) (lexed : Lexed) (tree : List RawExternal) (program : TypedProgram)
    (status : Status)
    (text : List ℕ) → HasProgram (model_of command) file lexed tree program → Suits command program → IsAnswer checked command file status text
    → IsAnswered status
suited_is_answered checked command file lexed tree program BadFile text h suits (inl refusal) =
    absurd (not_refused (model_of command) file lexed tree program text h refusal)
suited_is_answered checked command file lexed tree program BadFile text h suits (inr accepts) =
    accepted_is_answered checked command file lexed tree program BadFile text h suits accepts
suited_is_answered checked command file lexed tree program status text h suits accepts =
    accepted_is_answered checked command file lexed tree program status text h suits accepts

-- the only whole text for an acceptable file is that of an answer
pub acceptable_is_answered : (checked : List Kind) (words : List (List ℕ)) (left : Option (List ℕ)) (status : Status) (text : List ℕ)
    → (acceptable : IsAcceptable words left)
    → IsFileAnswer checked acceptable.command left status text → IsAnswered status
acceptable_is_answered checked words left status text acceptable answer =
    let same : answer.0 ≡ acceptable.bytes = subst (λ l. IsLeft l answer.0) acceptable.reported answer.1 in
    suited_is_answered checked acceptable.command acceptable.bytes acceptable.lexed acceptable.tree acceptable.program status text acceptable.accepted
    acceptable.suits (subst (λ file. IsAnswer checked acceptable.command file status text) same answer.2)

-- ---- a tree that typing refuses

-- has no program
not_accepted : (checked : List Kind) (command : Command) (file : List ℕ) (lexed : Lexed) (tree : List RawExternal) (code : TypeCode) (place : Place)
    (status : Status)
    (text : List ℕ) → Parses file lexed tree → typed_tree (model_of command) lexed tree ≡ Fault code place → Accepts checked command file status text
    → ⊥
not_accepted checked command file lexed tree code place status text h fault a =
    let again = one_typing (model_of command) file lexed a.lexed tree a.tree h a.accepted.parsed in
    not_both (typed_tree (model_of command) a.lexed a.tree) a.program code place a.accepted.typed (again ∙ fault)

-- has the line of its type error
refused_so : (model : DataModel) (file : List ℕ) (lexed : Lexed) (tree : List RawExternal) (code : TypeCode) (place : Place) (text : List ℕ)
    → Parses file lexed tree → typed_tree model lexed tree ≡ Fault code place → IsRefusal model file text
    → text ≡ type_line lexed.files.items code place
refused_so model file lexed tree code place text h fault refusal =
    let by = trees_are_refused_by_types model file lexed tree text h refusal in
    let same = one_fault (typed_tree model lexed tree) code by.0 place by.1 fault by.2 in
    by.3 ∙ (λ i. type_line lexed.files.items (same.0 i) (same.1 i))

refused_with : (checked : List Kind) (command : Command) (file : List ℕ) (lexed : Lexed) (tree : List RawExternal) (code : TypeCode) (place : Place)
    (status : Status)
    (text : List ℕ) (before now : Option (List ℕ)) → Parses file lexed tree → typed_tree (model_of command) lexed tree ≡ Fault code place
    → IsAnswer checked command file status text → Appends before now text → IsRefusedWith (type_line lexed.files.items code place) status before now
refused_with checked command file lexed tree code place BadFile text before now h fault (inl refusal) appended =
    subst (Appends before now) (refused_so (model_of command) file lexed tree code place text h fault refusal) appended
refused_with checked command file lexed tree code place BadFile text before now h fault (inr accepts) appended =
    absurd (not_accepted checked command file lexed tree code place BadFile text h fault accepts)
refused_with checked command file lexed tree code place status text before now h fault accepts appended =
    not_accepted checked command file lexed tree code place status text h fault accepts

-- the only whole text for a tree that typing refuses is the line of its type error
pub type_refused_is_told : (checked : List Kind) (words : List (List ℕ)) (left : Option (List ℕ)) (status : Status) (text : List ℕ)
    (before now : Option (List ℕ))
    → (refused : IsTypeRefused words left) → IsFileAnswer checked refused.command left status text → Appends before now text
    → IsRefusedWith (refused_line refused) status before now
type_refused_is_told checked words left status text before now refused answer appended =
    let same : answer.0 ≡ refused.bytes = subst (λ l. IsLeft l answer.0) refused.reported answer.1 in
    refused_with checked refused.command refused.bytes refused.lexed refused.tree refused.code refused.place status text before now refused.parsed
    refused.refused
    (subst (λ file. IsAnswer checked refused.command file status text) same answer.2) appended
