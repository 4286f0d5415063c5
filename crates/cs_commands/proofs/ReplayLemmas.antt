-- The entry of a replay, and the texts for a status of its run: for the functions that answer a replay.
use Rattle.std.proofs.Common.{◌≡◌, ℕ, suc, Bool, true, false, List, [], ◌∷◌, ◌++◌, map, length, Some, None, refl, sym, ap, ◌∙◌}
use Rattle.std.proofs.Common.{subst, rules}
use Rattle.std.specs.Prelude.{is_some, codes, nat_eq, ◌&&◌}
use Rattle.std.specs.List.{position, prefix_len}
use Rattle.std.specs.Cmp.Lexicographic.{pointwise}
use Rattle.std.proofs.lemmas.List.Quantifiers.{position-Some}
use Rattle.std.proofs.lemmas.Option.{unwrap_or-slice_get}
use Rattle.cs_ast.specs.declared.typed.program.Function.{Function}
use Rattle.cs_ast.specs.TypedProgram.{TypedProgram, routine}
use Rattle.cs_events.specs.declared.outcome.Outcome.{Outcome}
use Rattle.cs_events.specs.declared.outcome.Outcome.TheVariants.{Done, Fault, Over}
use Rattle.cs_events.specs.declared.guess.Guess.{Guess}
use Rattle.cs_events.specs.Runs.{Log}
use Rattle.cs_meaning.specs.Machine.{NOWHERE, no_routine, routine_of}
use Rattle.cs_meaning.specs.ProgramRuns.{RunGives}
use Rattle.cs_report.specs.ReplayLines.{replay_line}
use Rattle.cs_words.specs.declared.command.ReplayWords.{ReplayWords}
use Rattle.cs_entries.specs.Named.{is_entry, entry_of}
use Rattle.cs_answers.specs.declared.status.Status.{Status}
use Rattle.cs_answers.specs.declared.status.Status.TheVariants.{Clean, Found, NoEntry}
use Rattle.cs_commands.specs.Replays.{outcome_status, IsReplayOf, IsReplayAnswer}

prefix_len-map : {X Y : Type 0} (p : Y → Bool) (f : X → Y) (xs : List X) → prefix_len p (map f xs) ≡ prefix_len (λ x. p (f x)) xs
prefix_len-map p f [] = refl
prefix_len-map p f (x ∷ xs) = search (rules, prefix_len-map p f xs)

length-map : {X Y : Type 0} (f : X → Y) (xs : List X) → length (map f xs) ≡ length xs
length-map f [] = refl
length-map f (x ∷ xs) = ap suc (length-map f xs)

position-map : {X Y : Type 0} (p : Y → Bool) (f : X → Y) (xs : List X) → position p (map f xs) ≡ position (λ x. p (f x)) xs
position-map p f xs = simp (prefix_len-map, length-map)

-- the entry is searched among the functions of the program
pub entry_among : (functions : List Function) (name : List ℕ)
    → position (is_entry name) (map routine functions) ≡ position (λ f. is_entry name (routine f)) functions
entry_among functions name = position-map (is_entry name) routine functions

-- a status that no run has
pub no_outcome : {A : Type 0} (status : Status) (outcome : Outcome) → (status ≡ Clean → ⊥) → (status ≡ Found → ⊥)
    → status ≡ outcome_status outcome → A
no_outcome status (Done returned) not_clean not_found is = absurd (not_clean is)
no_outcome status (Fault kind place) not_clean not_found is = absurd (not_found is)
no_outcome status (Over budget place) not_clean not_found is = absurd (not_clean is)

-- the line of the run is the answer to the replay of the entry
pub answers_replay : (files : List (List ℕ)) (program : TypedProgram) (words : ReplayWords) (entry : ℕ) (status : Status) (text : List ℕ)
    → entry_of words.entry program ≡ Some entry → IsReplayOf files program words entry status text → IsReplayAnswer files program words status text
answers_replay files program words entry NoEntry text found replay = no_outcome NoEntry replay.outcome (λ e. cc) (λ e. cc) replay.yields
answers_replay files program words entry _ text found replay = (entry, found, replay)

-- the line states that there is no entry
pub refuses_entry : (files : List (List ℕ)) (program : TypedProgram) (words : ReplayWords) (status : Status) (text : List ℕ)
    → entry_of words.entry program ≡ None → status ≡ NoEntry → text ≡ codes "refused entry " ++ (words.entry ++ codes "\n")
    → IsReplayAnswer files program words status text
refuses_entry files program words status text none is line = subst (λ s. IsReplayAnswer files program words s text) (sym is) (none, line)

-- a run without initial guesses, described by its line
pub replay_is : (files : List (List ℕ)) (program : TypedProgram) (words : ReplayWords) (entry number : ℕ) (guesses : List Guess) (outcome : Outcome)
    (log : Log) (status : Status) (text : List ℕ) → number ≡ entry → guesses ≡ []
    → RunGives program number (record { inputs = words.inputs; guesses = guesses }) words.budgets outcome log → text ≡ replay_line files outcome
    → status ≡ outcome_status outcome → IsReplayOf files program words entry status text
replay_is files program words entry number guesses outcome log status text same none ends says yields = record {
  outcome = outcome;
  log = log;
  ends = subst (λ n. RunGives program n (record { inputs = words.inputs; guesses = [] }) words.budgets outcome log) same
      (subst (λ gs. RunGives program number (record { inputs = words.inputs; guesses = gs }) words.budgets outcome log) none ends);
  says = says;
  yields = yields;
}

-- the entry found has a body
pub entry_has_body : (program : TypedProgram) (name : List ℕ) (entry : ℕ) → entry_of name program ≡ Some entry
    → (routine_of program entry).body ≡ None → ⊥
entry_has_body program name entry found none =
    let nowhere = no_routine NOWHERE in
    let is = (position-Some (is_entry name) program.routines entry nowhere found).1 in
    let has = right (pointwise nat_eq (routine_of program entry).name name) (is_some (routine_of program entry).body)
    (ap (is_entry name) (unwrap_or-slice_get program.routines entry nowhere) ∙ is) in
    lacks (ap is_some none ∙ refl) has
  where
    right : (a b : Bool) → (a && b) ≡ true → b ≡ true
    right true b h = h
    right false b h = absurd cc

    lacks : {b : Bool} → b ≡ false → b ≡ true → ⊥
    lacks e h = absurd cc
