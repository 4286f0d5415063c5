-- A pool that passes the judge has only real guesses: by induction on the event.
use Rattle.std.proofs.Common.{◌≡◌, ℕ, zero, suc, IsTrue, List, length, take, Some, slice_get}
use Rattle.std.proofs.Common.{◌⊎◌, inl, inr, refl, sym, ap, ◌∙◌, subst, arith}
use Rattle.std.proofs.lemmas.List.{length-take}
use Rattle.cs_types.specs.declared.data_model.DataModel.{DataModel}
use Rattle.cs_ast.specs.declared.place.Place.{Place}
use Rattle.cs_ast.specs.TypedProgram.{TypedProgram}
use Rattle.cs_events.specs.declared.event.Event.{Event}
use Rattle.cs_events.specs.declared.guess.Guess.{Guess}
use Rattle.cs_events.specs.declared.operation.Operation.{Operation}
use Rattle.cs_events.specs.declared.outcome.RunBudgets.{RunBudgets}
use Rattle.cs_events.specs.PendingEvents as pending
use Rattle.cs_meaning.specs.ProgramRuns.{ProgramRun}
use Rattle.cs_results.specs.declared.run.Others.{Others}
use Rattle.cs_results.specs.declared.run.Others.TheVariants.{One, Two}
use Rattle.cs_findings.specs.Runs.{run_of, before, AllRelated}
use Rattle.cs_findings.specs.Operands.{with_operands}
use Rattle.cs_findings.specs.Grounds.{Pair}
use Rattle.cs_findings.specs.Narrower.{fits_left, fits_right}
use Rattle.cs_findings.specs.RealGuesses.{Comes, ComesToo, LeftDiffers, RightDiffers, IsRealAmong, AreRealBelow}
use Rattle.cs_findings.proofs.EarlierGuesses.{comes_before}
use Rattle.cs_judge.specs.declared.pool.Replay.{Replay}
use Rattle.cs_judge.specs.Pools.{IsRunAt, AreKept, IsReplayReal, ShowsReal}
use Rattle.cs_judge.proofs.Places.{place_of}
use Rattle.cs_judge.specs.Certificates.{IsSpot, IsMet, IsLeftMet, IsRightMet, IsJudged, IsCertificate}

module _ (program : TypedProgram) (entry : ℕ) (budgets : RunBudgets) (pool : List Replay) (kept : AreKept program entry budgets pool) where
  -- the runs of the pool have real guesses up to some event
  abbrev AreRealSo : (ProgramRun → Type 0) → Type 0
  AreRealSo Earlier = (number : ℕ) (replay : Replay) → slice_get pool number ≡ Some replay → Earlier (run_of replay.run)

  module _ (Earlier : ProgramRun → Type 0) (so : AreRealSo Earlier) (mine : Replay) (guess : Guess) (passed : ℕ) (at : Place) (operation : Operation)
      (spot : IsSpot mine guess passed at operation) where
    -- the events before the guess
    abbrev events : List Event
    events = take passed mine.events.items

    count : length events ≡ passed
    count = length-take passed mine.events.items ∙ (let enough = spot.enough in omega arith)

    other_run : {number : ℕ} {pair : Pair} → IsMet pool mine guess passed at operation number pair → ProgramRun
    other_run met = run_of met.other.run

    comes_too : {number : ℕ} {pair : Pair} (met : IsMet pool mine guess passed at operation number pair)
        → ComesToo program entry budgets Earlier (run_of mine.run) guess events at operation (other_run met) pair
    unfolding other_run
    comes_too {number = number} {pair = pair} met =
        let comes = kept number met.other met.there passed at (with_operands operation pair) met.kept met.enough in
        record {
          listed = met.listed;
          earlier = so number met.other met.there;
          comes = subst (λ e. Comes program entry budgets (run_of met.other.run) e (pending.Operates at (with_operands operation pair))) met.agree comes;
        }

    -- the runs of the partners
    record Partnered (numbers : Others ℕ) (pairs : Others Pair) : Type 0 where
      others : Others ProgramRun
      they : AllRelated (IsRunAt pool) numbers others
      come : AllRelated (ComesToo program entry budgets Earlier (run_of mine.run) guess events at operation) others pairs

    partnered : (numbers : Others ℕ) (pairs : Others Pair) → AllRelated (IsMet pool mine guess passed at operation) numbers pairs
        → Partnered numbers pairs
    unfolding other_run
    partnered (One number) (One pair) met = record {
      others = One (run_of met.other.run);
      they = record { replay = met.other; there = met.there; same = refl };
      come = comes_too met;
    }
    partnered (Two one two) (Two first second) (met, met') = record {
      others = Two (run_of met.other.run) (run_of met'.other.run);
      they = (record { replay = met.other; there = met.there; same = refl }, record { replay = met'.other; there = met'.there; same = refl });
      come = (comes_too met, comes_too met');
    }
    partnered (One number) (Two first second) met = absurd met
    partnered (Two one two) (One pair) met = absurd met

    left_differs : IsTrue (fits_left operation guess.number) ⊎ IsLeftMet pool mine guess passed at operation
        → IsTrue (fits_left operation guess.number) ⊎ LeftDiffers program entry budgets Earlier (run_of mine.run) guess events at operation
    unfolding other_run
    left_differs (inl fits) = inl fits
    left_differs (inr it) = inr (record { other = run_of it.met.other.run; pair = it.pair; comes = comes_too it.met; differs = it.differs })

    right_differs : IsTrue (fits_right operation guess.number) ⊎ IsRightMet pool mine guess passed at operation
        → IsTrue (fits_right operation guess.number) ⊎ RightDiffers program entry budgets Earlier (run_of mine.run) guess events at operation
    unfolding other_run
    right_differs (inl fits) = inl fits
    right_differs (inr it) = inr (record { other = run_of it.met.other.run; pair = it.pair; comes = comes_too it.met; differs = it.differs })

    number_is : guess.event ≡ suc (length events)
    number_is = spot.number ∙ ap suc (sym count)

    -- the run reaches the guessed operation without its later guesses
    comes_there : (number : ℕ) → slice_get pool number ≡ Some mine
        → Comes program entry budgets (before guess.event (run_of mine.run)) events (pending.Operates at operation)
    comes_there number there =
        subst (λ n. Comes program entry budgets (before n (run_of mine.run)) events (pending.Operates at operation)) (sym number_is)
        (comes_before program entry budgets (run_of mine.run) events (pending.Operates at operation)
        (kept number mine there passed at operation spot.kept spot.enough))

  -- a guess that passes the judge is real if the runs of the pool have real guesses before it
  real_with : (Earlier : ProgramRun → Type 0) → AreRealSo Earlier → (number : ℕ) (mine : Replay) → slice_get pool number ≡ Some mine
      → (place : ℕ) (guess : Guess) (judged : IsJudged program.model pool mine place guess)
      → (others : Others ProgramRun) × AllRelated (IsRunAt pool) judged.partners.others others
      × IsRealAmong program entry budgets Earlier (run_of mine.run) guess judged.at others
  real_with Earlier so number mine there place guess judged =
      let spot = judged.spot in
      let it = partnered Earlier so mine guess judged.passed judged.at judged.operation spot judged.partners.others judged.pairs judged.met in (
        it.others,
        it.they,
        record {
          events = take judged.passed mine.events.items;
          number = number_is Earlier so mine guess judged.passed judged.at judged.operation spot;
          operation = judged.operation;
          pairs = judged.pairs;
          comes = comes_there Earlier so mine guess judged.passed judged.at judged.operation spot number there;
          come = it.come;
          has_reason = judged.has_reason;
          used = judged.used;
          left = left_differs Earlier so mine guess judged.passed judged.at judged.operation spot judged.left;
          right = right_differs Earlier so mine guess judged.passed judged.at judged.operation spot judged.right;
        },
      )

  all_real : IsCertificate program.model pool → (n : ℕ) → AreRealSo (AreRealBelow program entry budgets n)
  unfolding AreRealBelow
  all_real judged zero number mine there = tt
  all_real judged (suc n) number mine there = (
    all_real judged n number mine there,
    λ guess listed at_event.
        let place = listed.0 in
        let it = real_with (AreRealBelow program entry budgets n) (all_real judged n) number mine there place guess
        (judged number mine there place guess (place_of mine.run.guesses.items place guess listed.1 listed.2)) in
        record { at = _; others = it.0; real = it.2 },
  )

  each_real : IsCertificate program.model pool → (number : ℕ) (mine : Replay) → slice_get pool number ≡ Some mine
      → IsReplayReal program entry budgets pool mine
  each_real judged number mine there = record {
    all = λ n. all_real judged n number mine there;
    each = λ place guess listed.
        let one = judged number mine there place guess listed in
        let it = real_with (AreRealBelow program entry budgets guess.event) (all_real judged guess.event) number mine there place guess one in
        record {
          at = one.at;
          passed = one.passed;
          number = one.spot.number;
          operation = one.operation;
          kept = one.spot.kept;
          partners = one.partners;
          named = one.named;
          others = it.0;
          they = it.1;
          real = it.2;
        };
  }

pub shows_real : (model : DataModel) (pool : List Replay) → IsCertificate model pool → ShowsReal model pool
shows_real model pool judged program entry budgets same kept =
    each_real program entry budgets pool kept (subst (λ m. IsCertificate m pool) (sym same) judged)
