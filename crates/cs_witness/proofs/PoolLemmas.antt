-- Pools: what is kept of them, and their first run. For the contracts of `pools` and `grounds`.
use Rattle.std.proofs.Common.{◌≡◌, ℕ, zero, suc, List, [], ◌∷◌, ◌++◌, map, Option, Some, None, slice_get, refl, sym, ap, ◌∙◌, subst}
use Rattle.std.specs.Prelude.{option_map}
use Rattle.std.proofs.lemmas.Option.{slice_get-map}
use Rattle.std.proofs.lemmas.List.{append-nil, append_assoc}
use Rattle.cs_ast.specs.declared.place.Place.{Place}
use Rattle.cs_ast.specs.TypedProgram.{TypedProgram, typed_program}
use Rattle.cs_events.specs.declared.event.Event.{Event}
use Rattle.cs_events.specs.declared.operation.Operation.{Operation}
use Rattle.cs_events.specs.declared.outcome.RunBudgets.{RunBudgets}
use Rattle.cs_events.specs.PendingEvents as pending
use Rattle.cs_meaning.specs.ProgramRuns.{ProgramRun}
use Rattle.cs_findings.specs.Runs.{run_of, run_budgets}
use Rattle.cs_findings.specs.RealGuesses.{Comes}
use Rattle.cs_judge.specs.declared.pool.Kept.{Kept}
use Rattle.cs_judge.specs.declared.pool.Kept.TheVariants as kept
use Rattle.cs_judge.specs.declared.pool.Replay.{Replay}
use Rattle.cs_judge.specs.Pools.{IsKept, AreKept}
use Rattle.cs_witness.specs.declared.entry.Entry.{Entry}
use Rattle.cs_witness.specs.Keeping.{Widens, KeepsRuns, bare}
use Rattle.std.proofs.Common.{◌<◌, set, get_or, arith}
use Rattle.std.proofs.lemmas.List.{map-set, set-get_or, get_or-map, length-map}
use Rattle.std.specs.Prelude.{length, take, ◌≤◌}

module _ (program : TypedProgram) (entry : ℕ) (budgets : RunBudgets) where
  -- what is kept of a pool and of further replays
  pub kept_more : (pool more : List Replay) → AreKept program entry budgets pool → AreKept program entry budgets more
      → AreKept program entry budgets (pool ++ more)
  kept_more [] more one other n replay there = other n replay there
  kept_more (x ∷ pool) more one other zero replay there = one zero replay there
  kept_more (x ∷ pool) more one other (suc n) replay there =
      kept_more pool more (λ k r h. one (suc k) r h) other n replay there

  pub kept_one : (replay : Replay) → IsKept program entry budgets replay → AreKept program entry budgets (replay ∷ [])
  kept_one replay is zero other there =
      let same : replay ≡ other = cc in
      subst (IsKept program entry budgets) same is
  kept_one replay is (suc n) other there = let no : ⊥ = cc in absurd no

  pub kept_none : AreKept program entry budgets []
  kept_none n other there = let no : ⊥ = cc in absurd no

  -- `IsKept` of a replay without its partners
  abbrev IsKeptSo : ProgramRun × List Event × List Kept → Type 0
  IsKeptSo it = (passed : ℕ) (at : Place) (operation : Operation) → slice_get it.2 passed ≡ Some (kept.Operates at operation)
      → passed ≤ length it.1
      → Comes program entry budgets it.0 (take passed it.1) (pending.Operates at operation)

  at_same : (old : Option Replay) (replay : Replay) → option_map bare old ≡ Some (bare replay)
      → ((r : Replay) → old ≡ Some r → IsKept program entry budgets r) → IsKept program entry budgets replay
  at_same None replay e all = let no : ⊥ = cc in absurd no
  at_same (Some r) replay e all =
      let same : bare r ≡ bare replay = cc in
      subst IsKeptSo same (all r refl)

  -- changing partners doesn't change what is kept
  pub kept_named : (old new : List Replay) → KeepsRuns old new → AreKept program entry budgets old → AreKept program entry budgets new
  kept_named old new same all n replay there =
      let e : option_map bare (slice_get old n) ≡ Some (bare replay) =
      sym (slice_get-map bare old n) ∙ sym (ap (λ l. slice_get l n) same) ∙ slice_get-map bare new n ∙ ap (option_map bare) there in
      at_same (slice_get old n) replay e (λ r h. all n r h)

-- the first replay of a pool is that of a run
pub record IsFirst (run : ProgramRun) (pool : List Replay) : Type 0 where
  pub mine : Replay
  pub there : slice_get pool 0 ≡ Some mine
  pub same : run_of mine.run ≡ run

first_of_more : (run : ProgramRun) (pool more : List Replay) → IsFirst run pool → IsFirst run (pool ++ more)
first_of_more run [] more first = let no : ⊥ = let there = first.there in cc in absurd no
first_of_more run (x ∷ pool) more first = record { mine = first.mine; there = first.there; same = first.same }

first_of_named : (run : ProgramRun) (old new : List Replay) → KeepsRuns old new → IsFirst run old → IsFirst run new
first_of_named run [] new same first = let no : ⊥ = let there = first.there in cc in absurd no
first_of_named run (x ∷ old) [] same first = let no : ⊥ = cc in absurd no
first_of_named run (x ∷ old) (y ∷ new) same first =
    let heads : bare y ≡ bare x = cc in
    let mine : x ≡ first.mine = let there = first.there in cc in
    record { mine = y; there = refl; same = ap (λ it. it.0) heads ∙ ap (λ (r : Replay). run_of r.run) mine ∙ first.same }

-- a pool whose replays are kept, and whose first one is that of a run
pub record IsPoolOf (entry : Entry) (run : ProgramRun) (pool : List Replay) : Type 0 where
  pub kept : AreKept (typed_program entry.program.now) entry.function (run_budgets entry.budgets) pool
  pub first : IsFirst run pool

pub widened : (entry : Entry) (run : ProgramRun) (old new : List Replay) → IsPoolOf entry run old → Widens entry old new → IsPoolOf entry run new
widened entry run old new is wide =
    subst (IsPoolOf entry run) (sym wide.is) (record {
      kept = kept_more (typed_program entry.program.now) entry.function (run_budgets entry.budgets) old wide.more is.kept wide.kept;
      first = first_of_more run old wide.more is.first;
    })

pub named : (entry : Entry) (run : ProgramRun) (old new : List Replay) → IsPoolOf entry run old → KeepsRuns old new → IsPoolOf entry run new
named entry run old new is same = record {
  kept = kept_named (typed_program entry.program.now) entry.function (run_budgets entry.budgets) old new same is.kept;
  first = first_of_named run old new same is.first;
}

pub pool_of_one : (entry : Entry) (run : ProgramRun) (replay : Replay)
    → IsKept (typed_program entry.program.now) entry.function (run_budgets entry.budgets) replay → run_of replay.run ≡ run
    → IsPoolOf entry run (replay ∷ [])
pool_of_one entry run replay is same = record {
  kept = kept_one (typed_program entry.program.now) entry.function (run_budgets entry.budgets) replay is;
  first = record { mine = replay; there = refl; same = same };
}

-- pools are widened step by step
pub widens_none : (entry : Entry) (pool : List Replay) → Widens entry pool pool
widens_none entry pool = record {
  more = [];
  is = sym (append-nil pool);
  kept = kept_none (typed_program entry.program.now) entry.function (run_budgets entry.budgets);
}

pub widens_on : (entry : Entry) (old middle new : List Replay) → Widens entry old middle → Widens entry middle new → Widens entry old new
widens_on entry old middle new one other = record {
  more = one.more ++ other.more;
  is = other.is ∙ ap (λ l. l ++ other.more) one.is ∙ append_assoc old one.more other.more;
  kept = kept_more (typed_program entry.program.now) entry.function (run_budgets entry.budgets) one.more other.more one.kept other.kept;
}

pub widens_one : (entry : Entry) (pool : List Replay) (replay : Replay)
    → IsKept (typed_program entry.program.now) entry.function (run_budgets entry.budgets) replay → Widens entry pool (pool ++ replay ∷ [])
widens_one entry pool replay is = record {
  more = replay ∷ [];
  is = refl;
  kept = kept_one (typed_program entry.program.now) entry.function (run_budgets entry.budgets) replay is;
}

-- one replay of a pool gets other partners
pub named_one : (pool : List Replay) (number : ℕ) (was replay : Replay) → number < length pool → bare replay ≡ bare was
    → was ≡ get_or pool number was
    → KeepsRuns pool (set pool number replay)
named_one pool number was replay within same is =
    let count = length-map pool bare in
    let there : get_or (map bare pool) number (bare was) ≡ bare was = get_or-map bare pool number was (bare was) within ∙ ap bare (sym is) in
    map-set bare pool number replay ∙ ap (set (map bare pool) number) (same ∙ sym there)
    ∙ set-get_or (map bare pool) number (bare was)

pub named_on : (old middle new : List Replay) → KeepsRuns old middle → KeepsRuns middle new → KeepsRuns old new
named_on old middle new one other = other ∙ one

-- a list of length 0
pub none_there : {A : Type 0} (xs : List A) → length xs ≡ 0 → xs ≡ []
none_there [] count = refl
none_there (x ∷ xs) count = absurd (omega arith)
