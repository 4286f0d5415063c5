-- The text for a status: for the functions that make an answer.
use Rattle.std.proofs.Common.{◌≡◌, ℕ, ◌+◌, ◌<◌, Bool, true, false, cond, List, ◌++◌, length, Option, Some, None, inl, inr, refl}
use Rattle.std.proofs.Common.{sym, subst, arith}
use Rattle.std.specs.Prelude.{◌⊎◌, Result, Ok, Err, IfOk, IfSome, codes, replicate}
use Rattle.std.proofs.lemmas.List.{length-replicate}
use Rattle.std.specs.Fmt.{decimal}
use Rattle.cs_model.specs.declared.kind.Kind.{Kind}
use Rattle.cs_ast.specs.declared.raw.external.RawExternal.{RawExternal}
use Rattle.cs_ast.specs.TypedProgram.{TypedProgram, typed_program}
use Rattle.cs_lexer.specs.declared.lexer.Lexed.{Lexed}
use Rattle.cs_events.specs.declared.outcome.Outcome.{Outcome}
use Rattle.cs_events.specs.declared.outcome.Outcome.TheVariants as ends
use Rattle.cs_scopes.specs.declared.refusal.TypeRefusal.{TypeRefusal}
use Rattle.cs_scopes.specs.declared.refusal.TypeRefusal.TheVariants as types
use Rattle.cs_scopes.specs.Verdicts as verdicts
use Rattle.cs_scopes.specs.Verdicts.{Fine}
use Rattle.cs_words.specs.declared.command.AnalyzeWords.{AnalyzeWords}
use Rattle.cs_words.specs.declared.command.Command.{Command}
use Rattle.cs_words.specs.declared.command.Command.TheVariants.{Analyze, Flow, Replay, Generate}
use Rattle.cs_words.specs.declared.command.ReplayWords.{ReplayWords}
use Rattle.cs_words.specs.declared.refusal.WordsRefusal.{WordsRefusal}
use Rattle.cs_words.specs.declared.refusal.WordsRefusal.TheVariants as words_refusal
use Rattle.cs_words.specs.Meaning.{WordsMean}
use Rattle.cs_words.specs.Scan as scan
use Rattle.cs_limits.specs.declared.TheConstants.{MOST_BYTES}
use Rattle.cs_program.specs.declared.program.FileProgram.{FileProgram}
use Rattle.cs_program.specs.declared.refusal.FileRefusal.{FileRefusal}
use Rattle.cs_program.specs.declared.refusal.FileRefusal.TheVariants as file_refusal
use Rattle.cs_program.specs.Answers.{IsProgramOf, IsRefusedFor}
use Rattle.cs_program.specs.Trees.{Parses, typed_tree}
use Rattle.cs_commands.specs.Refusals.{IsFileLine, IsSyntaxLine, IsTypeLine, too_long, by_lexing, by_syntax, by_type}
use Rattle.cs_answers.specs.declared.status.Status.{Status}
use Rattle.cs_answers.specs.declared.status.Status.TheVariants.{Clean, Found, BadWords, BadFile, ReadFault, WriteFault, Memory, NoEntry}
use Rattle.cs_answers.specs.declared.answer.Answer.{Answer}
use Rattle.cs_answers.specs.declared.answer.Failure.{Failure}
use Rattle.cs_results.specs.Selected.{every_kind, lists_report}
use Rattle.cs_app.specs.Answers.{IsProgramAnswer, IsAnswer, IsLeft, IsFileAnswer, IsWhole, IsAnswered, IsDone, Reads, file_of, model_of}
use Rattle.cs_commands.specs.Replays.{IsReplayAnswer, outcome_status}
use Rattle.cs_app.specs.Analyses.{IsAnalysisAnswer}
use Rattle.cs_commands.proofs.ReplayLemmas.{no_outcome}

-- ---- a program
-- a status that no analysis has
pub no_analysis : {A : Type 0} (status : Status) (found : Bool) → (status ≡ Clean → ⊥) → (status ≡ Found → ⊥)
    → status ≡ cond found Found Clean → A
no_analysis status true not_clean not_found is = absurd (not_found is)
no_analysis status false not_clean not_found is = absurd (not_clean is)

-- the answer to the program of a file's tree is the answer to the file
answers_program : (checked : List Kind) (command : Command) (file : List ℕ) (lexed : Lexed) (parsed : List RawExternal) (program : TypedProgram)
    (status : Status)
    (text : List ℕ) → Parses file lexed parsed → typed_tree (model_of command) lexed parsed ≡ Fine program
    → IsProgramAnswer checked command lexed.files.items program status text → IsAnswer checked command file status text
answers_program checked command file lexed parsed program BadFile text h typed answer =
    inr (record { lexed = lexed; tree = parsed; program = program; accepted = record { parsed = h; typed = typed }; answer = answer })
answers_program checked command file lexed parsed program _ text h typed answer =
    record { lexed = lexed; tree = parsed; program = program; accepted = record { parsed = h; typed = typed }; answer = answer }

-- no answer to a program has the status of a bad command line
no_answer_of_words : {A : Type 0} (checked : List Kind) (command : Command) (files : List (List ℕ)) (program : TypedProgram) (text : List ℕ)
    → IsProgramAnswer checked command files program BadWords text → A
no_answer_of_words checked (Analyze words) files program text answer =
    no_analysis BadWords (lists_report words.kinds answer.results) (λ e. cc) (λ e. cc) answer.answer.yields
no_answer_of_words checked (Flow words) files program text answer = absurd (let is = answer.0 in cc)
no_answer_of_words checked (Replay words) files program text answer = no_outcome BadWords answer.2.outcome (λ e. cc) (λ e. cc) answer.2.yields
no_answer_of_words checked (Generate words) files program text answer =
    no_analysis BadWords (lists_report every_kind answer.results) (λ e. cc) (λ e. cc) answer.yields

-- ---- a file
-- the line of a type error is the answer to the file with this tree
refuses_type : (checked : List Kind) (command : Command) (file : List ℕ) (lexed : Lexed) (parsed : List RawExternal) (refusal : TypeRefusal) (status : Status)
    (text : List ℕ)
    → status ≡ BadFile → verdicts.IsRefused (typed_tree (model_of command) lexed parsed) refusal → IsTypeLine lexed.files.items refusal text
    → Parses file lexed parsed → IsAnswer checked command file status text
refuses_type checked command file lexed parsed (types.Code code place) status text is refused line h =
    subst (λ s. IsAnswer checked command file s text) (sym is) (inl (by_type lexed parsed h code place refused line))
refuses_type checked command file lexed parsed types.Memory status text is refused line h = absurd line

-- the answer to a file that is too long is the line that states this
long_answer : (checked : List Kind) (command : Command) (file : List ℕ) (status : Status) (text : List ℕ) → status ≡ BadFile
    → text ≡ codes "refused too-long 4194305\n"
    → MOST_BYTES < length file → IsAnswer checked command file status text
long_answer checked command file status text is line long = subst (λ s. IsAnswer checked command file s text) (sym is) (inl (too_long long line))

-- the line of the check that a file fails is the answer to it
pub refuses : (checked : List Kind) (command : Command) (file : List ℕ) (refusal : FileRefusal) (status : Status) (text : List ℕ) → status ≡ BadFile
    → IsRefusedFor (model_of command) file refusal → IsFileLine refusal text → IsAnswer checked command file status text
refuses checked command file file_refusal.TooLong status text is refused line = long_answer checked command file status text is line refused
refuses checked command file (file_refusal.Tokens refusal) status text is refused line =
    subst (λ s. IsAnswer checked command file s text) (sym is) (inl (by_lexing refused.0 refusal refused.1 line))
refuses checked command file (file_refusal.Syntax refusal files) status text is r line =
    let same = subst (λ names. IsSyntaxLine names refusal text) r.names line in
    subst (λ s. IsAnswer checked command file s text) (sym is) (inl (by_syntax r.short r.lexed r.has_tokens refusal r.refused same))
refuses checked command file (file_refusal.Types refusal files) status text is r line =
    refuses_type checked command file r.lexed r.tree refusal status text is r.refused (subst (λ names. IsTypeLine names refusal text) r.names line) r.parsed

-- the answer to a file's program is the answer to the file
pub answers_file : (checked : List Kind) (command : Command) (file : List ℕ) (found : FileProgram) (status : Status) (text : List ℕ)
    → IsProgramOf (model_of command) file found → IsProgramAnswer checked command found.files.items (typed_program found.program) status text
    → IsAnswer checked command file status text
answers_file checked command file found status text h answer =
    answers_program checked command file h.lexed h.tree (typed_program found.program) status text h.accepted.parsed h.accepted.typed
    (subst (λ names. IsProgramAnswer checked command names (typed_program found.program) status text) h.names answer)

-- ---- what a source still has
some_longer : (n : ℕ) → (file : List ℕ) × (n < length file)
some_longer n = (replicate (n + 1) 0, omega (arith, length-replicate {A = ℕ} (n + 1) 0))

-- the file of a command that reads is what the source still has
file_of_source : (command : Command) (left : Option (List ℕ)) → Reads command → file_of command left ≡ left
file_of_source (Analyze words) left reads = refl
file_of_source (Flow words) left reads = refl
file_of_source (Replay words) left reads = refl
file_of_source (Generate words) left reads = absurd reads

-- the line for a file that is too long is the answer to it
pub refuses_length : (checked : List Kind) (command : Command) (left : Option (List ℕ)) (status : Status) (text : List ℕ) → Reads command
    → status ≡ BadFile
    → text ≡ codes "refused too-long 4194305\n" → IfSome left (λ file. MOST_BYTES < length file) → IsFileAnswer checked command left status text
refuses_length checked command (Some file) status text reads is line long =
    (file, subst (λ l. IsLeft l file) (sym (file_of_source command (Some file) reads)) refl, long_answer checked command file status text is line long)
refuses_length checked command None status text reads is line long =
    let some = some_longer MOST_BYTES in
    (some.0, subst (λ l. IsLeft l some.0) (sym (file_of_source command None reads)) tt, long_answer checked command some.0 status text is line some.1)

-- an answer to the bytes that were read is an answer to the file, if the source's bytes are known
pub answers_left : (checked : List Kind) (command : Command) (left : Option (List ℕ)) (file : List ℕ) (status : Status) (text : List ℕ) → Reads command
    → IfSome left (λ bytes. file ≡ bytes) → IsAnswer checked command file status text → IsFileAnswer checked command left status text
answers_left checked command (Some bytes) file status text reads same answer =
    (file, subst (λ l. IsLeft l file) (sym (file_of_source command (Some bytes) reads)) same, answer)
answers_left checked command None file status text reads same answer =
    (file, subst (λ l. IsLeft l file) (sym (file_of_source command None reads)) tt, answer)

-- ---- words
-- an answer to the file is an answer to the words, if they mean the command
whole_of_file : (checked : List Kind) (words : List (List ℕ)) (left : Option (List ℕ)) (command : Command) (status : Status) (text : List ℕ)
    → WordsMean words command
    → IsFileAnswer checked command left status text → IsWhole checked words left status text
whole_of_file checked words left command BadWords text meant answer =
    let a = answer.2 in
    no_answer_of_words checked command a.lexed.files.items a.program text a.answer
whole_of_file checked words left command _ text meant answer = (command, meant, answer)

-- the same for a function's result
pub whole_of_result : (checked : List Kind) (words : List (List ℕ)) (left : Option (List ℕ)) (command : Command) (r : Result Answer Failure)
    → WordsMean words command
    → IfOk r (λ answer. IsFileAnswer checked command left answer.status answer.text.items)
    → IfOk r (λ answer. IsWhole checked words left answer.status answer.text.items)
whole_of_result checked words left command (Ok answer) meant h = whole_of_file checked words left command answer.status answer.text.items meant h
whole_of_result checked words left command (Err failure) meant h = tt

-- the line that refuses the words
pub whole_of_words : (checked : List Kind) (words : List (List ℕ)) (left : Option (List ℕ)) (status : Status) (text : List ℕ) (refusal : WordsRefusal)
    (n : ℕ)
    → status ≡ BadWords → refusal ≡ words_refusal.Words n → scan.IsRefusal words refusal
    → text ≡ codes "refused words " ++ (decimal n ++ codes "\n") → IsWhole checked words left status text
whole_of_words checked words left status text refusal n is one refused line =
    subst (λ s. IsWhole checked words left s text) (sym is) (n, subst (λ r. scan.IsRefusal words r) one refused, line)

-- words that were read as a command mean only this one
pub only_command : (checked : List Kind) (words : List (List ℕ)) (left : Option (List ℕ)) (one other : Command) (read : Result Command WordsRefusal)
    (r : Result Answer Failure)
    → read ≡ Ok one → (read ≡ Ok other) ⊎ (read ≡ Err words_refusal.Memory)
    → IfOk r (λ answer. IsFileAnswer checked one left answer.status answer.text.items)
    → IfOk r (λ answer. IsFileAnswer checked other left answer.status answer.text.items)
only_command checked words left one other read r is (inl e) h =
    let same : one ≡ other = cc in
    subst (λ command. IfOk r (λ answer. IsFileAnswer checked command left answer.status answer.text.items)) same h
only_command checked words left one other read r is (inr e) h = absurd cc

-- the words that were read as a command aren't refused
pub not_refused_words : {A : Type 0} (one : Command) (n : ℕ) (read : Result Command WordsRefusal) → read ≡ Ok one
    → (read ≡ Err (words_refusal.Words n)) ⊎ (read ≡ Err words_refusal.Memory) → A
not_refused_words one n read is (inl e) = absurd cc
not_refused_words one n read is (inr e) = absurd cc

-- words that are refused mean no command
pub none_meant : {A : Type 0} (other : Command) (n : ℕ) (refusal : WordsRefusal) (read : Result Command WordsRefusal) → read ≡ Err refusal
    → refusal ≡ words_refusal.Words n → (read ≡ Ok other) ⊎ (read ≡ Err words_refusal.Memory) → A
none_meant other n refusal read is one (inl e) = absurd cc
none_meant other n refusal read is one (inr e) = absurd cc

-- ---- statuses
-- the status of a search for faults is that of an answer
pub yields_answer : (status : Status) (found : Bool) → status ≡ cond found Found Clean → IsAnswered status
yields_answer status true is = subst IsAnswered (sym is) tt
yields_answer status false is = subst IsAnswered (sym is) tt

pub outcome_answers : (status : Status) (outcome : Outcome) → status ≡ outcome_status outcome → IsAnswered status
outcome_answers status (ends.Done returned) is = subst IsAnswered (sym is) tt
outcome_answers status (ends.Fault kind at) is = subst IsAnswered (sym is) tt
outcome_answers status (ends.Over budget at) is = subst IsAnswered (sym is) tt

-- an answer was written whole
answered_is_done : (status : Status) → IsAnswered status → IsDone status
answered_is_done Clean answered = tt
answered_is_done Found answered = tt
answered_is_done BadWords answered = absurd answered
answered_is_done BadFile answered = absurd answered
answered_is_done ReadFault answered = absurd answered
answered_is_done WriteFault answered = absurd answered
answered_is_done Memory answered = absurd answered
answered_is_done NoEntry answered = absurd answered

-- no answer to a program has the status of a stream's fault or of running out of memory
analysis_is_done : (checked : List Kind) (words : AnalyzeWords) (program : TypedProgram) (status : Status) (text : List ℕ)
    → IsAnalysisAnswer checked words program status text → IsDone status
analysis_is_done checked words program NoEntry text lacks = tt
analysis_is_done checked words program status text answer =
    answered_is_done status (yields_answer status (lists_report words.kinds answer.results) answer.answer.yields)

replay_is_done : (files : List (List ℕ)) (program : TypedProgram) (words : ReplayWords) (status : Status) (text : List ℕ)
    → IsReplayAnswer files program words status text → IsDone status
replay_is_done files program words NoEntry text answer = tt
replay_is_done files program words status text answer =
    answered_is_done status (outcome_answers status answer.2.outcome answer.2.yields)

program_is_done : (checked : List Kind) (command : Command) (files : List (List ℕ)) (program : TypedProgram) (status : Status) (text : List ℕ)
    → IsProgramAnswer checked command files program status text → IsDone status
program_is_done checked (Analyze words) files program status text answer = analysis_is_done checked words program status text answer
program_is_done checked (Flow words) files program status text answer = subst IsDone (sym answer.0) tt
program_is_done checked (Replay words) files program status text answer = replay_is_done files program words status text answer
program_is_done checked (Generate words) files program status text answer =
    answered_is_done status (yields_answer status (lists_report every_kind answer.results) answer.yields)

-- and neither has one to words: the status of a whole text is one with which the text is written
pub whole_is_done : (checked : List Kind) (words : List (List ℕ)) (left : Option (List ℕ)) (status : Status) (text : List ℕ)
    → IsWhole checked words left status text → IsDone status
whole_is_done checked words left Clean text h = tt
whole_is_done checked words left Found text h = tt
whole_is_done checked words left BadWords text h = tt
whole_is_done checked words left BadFile text h = tt
whole_is_done checked words left NoEntry text h = tt
whole_is_done checked words left ReadFault text h =
    let a = h.2.2 in
    program_is_done checked h.0 a.lexed.files.items a.program ReadFault text a.answer
whole_is_done checked words left WriteFault text h =
    let a = h.2.2 in
    program_is_done checked h.0 a.lexed.files.items a.program WriteFault text a.answer
whole_is_done checked words left Memory text h =
    let a = h.2.2 in
    program_is_done checked h.0 a.lexed.files.items a.program Memory text a.answer
