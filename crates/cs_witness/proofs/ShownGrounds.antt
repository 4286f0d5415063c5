-- What follows for the first run of a pool if the judge accepts the pool. For the contract of `grounds_of`.
use Rattle.std.proofs.Common.{◌≡◌, List, [], Some, slice_get, refl, sym, ap, subst}
use Rattle.std.specs.Prelude.{Vec, Result, Ok, Err, Option, None, IfOk, IfSome}
use Rattle.std.specs.declared.alloc.Global.{Global}
use Rattle.cs_events.specs.declared.guess.Guess.{Guess}
use Rattle.std.specs.Map.{keys_of}
use Rattle.cs_ast.specs.TypedProgram.{typed_program}
use Rattle.cs_meaning.specs.ProgramRuns.{ProgramRun}
use Rattle.cs_results.specs.declared.finding.Ground.{Ground}
use Rattle.cs_findings.specs.Runs.{run_budgets}
use Rattle.cs_findings.specs.GoodFindings.{IsEach, IsGroundOf}
use Rattle.cs_judge.specs.declared.pool.Replay.{Replay}
use Rattle.cs_judge.specs.Pools.{ShowsReal}
use Rattle.cs_witness.specs.declared.entry.Entry.{Entry}
use Rattle.cs_witness.specs.Grounding.{AreGroundsIn}
use Rattle.cs_witness.proofs.Groundings.{grounds_are}
use Rattle.cs_witness.proofs.PoolLemmas.{IsPoolOf}

-- if the judge has shown the guesses of a pool to be real, the grounds that are read from it are those of its first run
pub grounds_shown : (entry : Entry) (run : ProgramRun) (pool : List Replay) (grounds : List Ground) → IsPoolOf entry run pool
    → ShowsReal entry.program.now.model pool
    → ((mine : Replay) → slice_get pool 0 ≡ Some mine → AreGroundsIn pool mine run.inputs grounds)
    → IsEach (IsGroundOf (typed_program entry.program.now) entry.function (run_budgets entry.budgets) run) run.guesses grounds
grounds_shown entry run pool grounds is real each =
    let program = typed_program entry.program.now in
    let budgets = run_budgets entry.budgets in
    let first = is.first in
    let shown = real program entry.function budgets refl is.kept 0 first.mine first.there in
    let made = grounds_are pool run.inputs program entry.function budgets first.mine shown grounds (each first.mine first.there)
    (sym (ap (λ (r : ProgramRun). keys_of r.inputs) first.same)) in
    subst (λ (r : ProgramRun). IsEach (IsGroundOf program entry.function budgets r) r.guesses grounds) first.same made

-- the same for what was found, if anything was
pub grounds_found : {E : Type 0} (entry : Entry) (run : ProgramRun) (pool : List Replay) (r : Result (Option (Vec Ground Global)) E)
    → IsPoolOf entry run pool → ShowsReal entry.program.now.model pool
    → IfOk r (λ found. IfSome found (λ grounds. (mine : Replay) → slice_get pool 0 ≡ Some mine → AreGroundsIn pool mine run.inputs grounds.items))
    → IfOk r (λ found. IfSome found (λ grounds.
    IsEach (IsGroundOf (typed_program entry.program.now) entry.function (run_budgets entry.budgets) run) run.guesses grounds.items))
grounds_found entry run pool (Err e) is real each = tt
grounds_found entry run pool (Ok None) is real each = tt
grounds_found entry run pool (Ok (Some grounds)) is real each = grounds_shown entry run pool grounds.items is real each

-- a run that guesses nothing needs no grounds
pub no_grounds : (R : Guess → Ground → Type 0) (guesses : List Guess) (grounds : List Ground) → guesses ≡ [] → grounds ≡ []
    → IsEach R guesses grounds
no_grounds R guesses grounds none empty = subst (λ gs. IsEach R gs grounds) (sym none) (subst (IsEach R []) (sym empty) tt)
