-- The listed run of an evident suspect. For the contracts of `showing`.
use Rattle.std.proofs.Common.{◌≡◌, ◌<◌, ◌≤◌, List, [], map, length, get_or, inl, refl, sym, ◌∙◌, subst, arith}
use Rattle.std.specs.Prelude.{All}
use Rattle.std.proofs.lemmas.Option.{slice_get-get_or}
use Rattle.std.proofs.lemmas.List.Elements.{All-map}
use Rattle.cs_events.specs.declared.guess.Guess.{Guess}
use Rattle.cs_meaning.specs.ProgramRuns.{ProgramRun}
use Rattle.cs_run_log.specs.LogView.{log_of}
use Rattle.cs_findings.specs.Runs.{run_of}
use Rattle.cs_suspect_types.specs.declared.suspect.Suspect.{Suspect}
use Rattle.cs_suspect_types.specs.declared.suspect.SuspectedGuess.{SuspectedGuess}
use Rattle.cs_witness.specs.declared.entry.Entry.{Entry}
use Rattle.cs_witness.specs.declared.showing.Listed.{Listed}
use Rattle.cs_witness.specs.Entries.{Gives}
use Rattle.cs_witness.specs.Listing.{IsListed, AgreesWith}
use Rattle.cs_witness.specs.Pooling.{IsEvidentRun}
use Rattle.cs_witness.specs.Witnesses.{IsEvidentOf}

module _ (entry : Entry) (suspect : Suspect) (evident : IsEvidentOf entry suspect) (guesses : List Guess)
    (taken : guesses ≡ map (λ (one : SuspectedGuess). one.guess) suspect.guesses.items) (listed : Listed)
    (gives : Gives entry (record { inputs = suspect.inputs; guesses = guesses }) listed.replayed) where
  ends : (listed.replayed.outcome ≡ suspect.what) × (length listed.replayed.log.events.items ≡ suspect.events) × (listed.replayed.log.read.items ≡ [])
  ends =
      evident.ends (record { inputs = suspect.inputs; guesses = guesses }) listed.replayed.outcome (log_of listed.replayed.log)
      (record { inputs = λ path parameter. refl; guesses = taken }) gives

  pub ends_as_suspected : listed.replayed.outcome ≡ suspect.what
  ends_as_suspected = ends.0

  pub passes_as_many : length listed.replayed.log.events.items ≡ suspect.events
  passes_as_many = ends.1

  module _ (is : IsListed entry listed) (agrees : AgreesWith suspect.inputs listed.run.inputs) (same : listed.run.guesses.items ≡ guesses) where
    pub evident_run : IsEvidentRun entry suspect.guesses.items (run_of listed.run)
    evident_run = record {
      suspect = suspect;
      same = refl;
      evident = evident;
      is = record { inputs = λ path parameter. agrees path ((is.listed path).1 (inl parameter)); guesses = same ∙ taken };
      parameters = λ path parameter. (is.listed path).1 (inl parameter);
    }

    pub all_passed : All (λ (g : Guess). g.event ≤ length listed.replayed.log.events.items) listed.run.guesses.items
    all_passed =
        let Within : Guess → Type 0 = λ g. g.event ≤ length listed.replayed.log.events.items in
        subst (All Within) (sym (same ∙ taken))
        (All-map Within (λ (one : SuspectedGuess). one.guess) suspect.guesses.items
        (subst (λ n. All (λ (one : SuspectedGuess). one.guess.event ≤ n) suspect.guesses.items) (sym passes_as_many) evident.passed))

-- guesses of an evident run are at events from 1
pub all_after_none : (entry : Entry) (items : List SuspectedGuess) (run : ProgramRun) → IsEvidentRun entry items run
    → All (λ (g : Guess). 0 < g.event) run.guesses
all_after_none entry items run is =
    subst (All (λ (g : Guess). 0 < g.event)) (sym is.is.guesses)
    (All-map (λ (g : Guess). 0 < g.event) (λ (one : SuspectedGuess). one.guess) is.suspect.guesses.items
    (λ k d below.
    let at = is.evident.guesses k (get_or is.suspect.guesses.items k d) (slice_get-get_or is.suspect.guesses.items k d below) in
    let event = at.event in
    omega arith))
