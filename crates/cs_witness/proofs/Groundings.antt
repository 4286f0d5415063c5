-- Grounds that are taken from a pool are grounds of its first run's guesses, if the judge has shown them to be real.
use Rattle.std.proofs.Common.{◌≡◌, ℕ, zero, suc, ℤ, List, [], ◌∷◌, ◌++◌, length, Some, slice_get, refl, sym, ap, ◌∙◌, subst, arith}
use Rattle.std.specs.Map.{keys_of}
use Rattle.cs_inputs.specs.declared.path.Path.{Path}
use Rattle.cs_ast.specs.declared.place.Place.{Place}
use Rattle.cs_ast.specs.TypedProgram.{TypedProgram}
use Rattle.cs_events.specs.declared.guess.Guess.{Guess}
use Rattle.cs_events.specs.declared.outcome.RunBudgets.{RunBudgets}
use Rattle.cs_meaning.specs.ProgramRuns.{ProgramRun}
use Rattle.cs_results.specs.declared.finding.Ground.{Ground}
use Rattle.cs_results.specs.declared.run.Others.{Others}
use Rattle.cs_results.specs.declared.run.Others.TheVariants.{One, Two}
use Rattle.cs_results.specs.declared.run.Run.{Run}
use Rattle.cs_findings.specs.Runs.{run_of, each_other, AllRelated}
use Rattle.cs_findings.specs.RealGuesses.{IsReal}
use Rattle.cs_findings.specs.GoodFindings.{IsEach, IsGroundOf, AllOthers}
use Rattle.cs_judge.specs.declared.pool.Kept.TheVariants as kept
use Rattle.cs_judge.specs.declared.pool.Partners.{Partners}
use Rattle.cs_judge.specs.declared.pool.Replay.{Replay}
use Rattle.cs_judge.specs.Pools.{IsRunAt, IsReplayReal}
use Rattle.cs_witness.specs.Grounding.{IsListedRunAt, AreRunsAt, IsGroundIn, AreGroundsIn}

-- lists related index by index
each_by_place : {A B : Type 0} (R : A → B → Type 0) (xs : List A) (ys : List B) → length ys ≡ length xs
    → ((n : ℕ) (x : A) (y : B) → slice_get xs n ≡ Some x → slice_get ys n ≡ Some y → R x y) → IsEach R xs ys
each_by_place R [] [] count all = tt
each_by_place R [] (y ∷ ys) count all = let no : ⊥ = cc in absurd no
each_by_place R (x ∷ xs) [] count all = let no : ⊥ = cc in absurd no
each_by_place R (x ∷ xs) (y ∷ ys) count all =
    let rest : length ys ≡ length xs = omega arith in
    (all zero x y refl refl, each_by_place R xs ys rest (λ n a b h k. all (suc n) a b h k))

module _ (pool : List Replay) (inputs : List (Path × ℤ)) where
  one_run : (number : ℕ) (run : Run) (other : ProgramRun) → IsListedRunAt pool inputs number run → IsRunAt pool number other → run_of run ≡ other
  one_run number run other listed at =
      let a = listed.there in
      let b = at.there in
      let same : listed.replay ≡ at.replay = cc in
      listed.same ∙ ap (λ (r : Replay). run_of r.run) same ∙ at.same

  -- the runs of a ground are those that the judge has seen
  same_runs : (numbers : Others ℕ) (runs : Others Run) (others : Others ProgramRun) → AreRunsAt pool inputs numbers runs
      → AllRelated (IsRunAt pool) numbers others → each_other run_of runs ≡ others
  same_runs (One number) (One run) (One other) listed at = ap One (one_run number run other listed at)
  same_runs (One number) (One run) (Two other more) listed at = absurd at
  same_runs (One number) (Two run next) others listed at = absurd listed
  same_runs (Two number second) (One run) others listed at = absurd listed
  same_runs (Two number second) (Two run next) (One other) listed at = absurd at
  same_runs (Two number second) (Two run next) (Two other more) listed at =
      let a = one_run number run other listed.0 at.0 in
      let b = one_run second next more listed.1 at.1 in
      λ i. Two (a i) (b i)

  same_paths : (numbers : Others ℕ) (runs : Others Run) → AreRunsAt pool inputs numbers runs
      → AllOthers (λ (other : ProgramRun). keys_of other.inputs ≡ keys_of inputs) (each_other run_of runs)
  same_paths (One number) (One run) listed = listed.paths
  same_paths (One number) (Two run next) listed = absurd listed
  same_paths (Two number second) (One run) listed = absurd listed
  same_paths (Two number second) (Two run next) listed = (listed.0.paths, listed.1.paths)

  module _ (program : TypedProgram) (entry : ℕ) (budgets : RunBudgets) (mine : Replay) (real : IsReplayReal program entry budgets pool mine) where
    ground_is : (number : ℕ) (ground : Ground) → IsGroundIn pool mine inputs number ground → (guess : Guess) → ground.guess ≡ guess
        → keys_of inputs ≡ keys_of (run_of mine.run).inputs → IsGroundOf program entry budgets (run_of mine.run) guess ground
    ground_is number ground is guess same keys =
        let one = real.each number ground.guess is.guess in
        let passed : is.place.passed ≡ one.passed = let a = is.place.number in let b = one.number in omega arith in
        let a = is.place.kept in
        let b = one.kept in
        let both : Some (kept.Operates ground.place is.place.operation) ≡ Some (kept.Operates one.at one.operation) =
        sym a ∙ (ap (slice_get mine.kept.items) passed ∙ b) in
        let at : one.at ≡ ground.place = cc in
        let named_one = is.named in
        let named_other = one.named in
        let partners : one.partners ≡ is.partners = cc in
        let they : AllRelated (IsRunAt pool) is.partners.others one.others =
        subst (λ (p : Partners). AllRelated (IsRunAt pool) p.others one.others) partners one.they in
        let runs = same_runs is.partners.others ground.others one.others is.others they in
        let is_real : IsReal program entry budgets (run_of mine.run) ground.guess ground.place (each_other run_of ground.others) =
        subst (λ (p : Place). IsReal program entry budgets (run_of mine.run) ground.guess p (each_other run_of ground.others)) at
        (subst (λ (o : Others ProgramRun). IsReal program entry budgets (run_of mine.run) ground.guess one.at o) (sym runs) one.real) in
        record {
          same = same;
          real = subst (λ (g : Guess). IsReal program entry budgets (run_of mine.run) g ground.place (each_other run_of ground.others)) same is_real;
          paths = subst (λ k. AllOthers (λ (other : ProgramRun). keys_of other.inputs ≡ k) (each_other run_of ground.others)) keys
              (same_paths is.partners.others ground.others is.others);
        }

    pub grounds_are : (grounds : List Ground) → AreGroundsIn pool mine inputs grounds → keys_of inputs ≡ keys_of (run_of mine.run).inputs
        → IsEach (IsGroundOf program entry budgets (run_of mine.run)) mine.run.guesses.items grounds
    grounds_are grounds are keys =
        each_by_place (IsGroundOf program entry budgets (run_of mine.run)) mine.run.guesses.items grounds are.count
        (λ n guess ground listed there.
        let is = are.each n ground there in
        let a = is.guess in
        let same : ground.guess ≡ guess = cc in
        ground_is n ground is guess same keys)

-- what holds for each item at its index, with one more item
pub each_more_at : {A : Type 0} (P : ℕ → A → Type 0) (xs : List A) (x : A) → ((n : ℕ) (y : A) → slice_get xs n ≡ Some y → P n y)
    → P (length xs) x
    → (n : ℕ) (y : A) → slice_get (xs ++ x ∷ []) n ≡ Some y → P n y
each_more_at P [] x each one zero y there = let same : x ≡ y = cc in subst (P 0) same one
each_more_at P [] x each one (suc n) y there = let no : ⊥ = cc in absurd no
each_more_at P (a ∷ xs) x each one zero y there = each zero y there
each_more_at P (a ∷ xs) x each one (suc n) y there = each_more_at (λ m. P (suc m)) xs x (λ m z h. each (suc m) z h) one n y there
