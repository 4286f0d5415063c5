use Rattle.std.proofs.Common.{◌≡◌, List, [], ◌∷◌, ◌++◌, IsTrue, false, ap, ◌∙◌, sym, subst, rules}
use Rattle.cs_judge.specs.declared.pool.Replay.{Replay}
use Rattle.cs_judge.specs.Pools.{ShowsReal}
use Rattle.cs_witness.specs.Pooling.{AreNamed}
use Rattle.cs_findings.specs.Runs.{run_of}
use Rattle.cs_witness.proofs.PoolLemmas.{IsPoolOf, pool_of_one, widened, named as named_pool}
use Rattle.cs_witness.proofs.ShownGrounds.{grounds_found}
use Rattle.cs_witness.proofs.CornerLemmas.{if_ok}
use Rattle.cs_witness.proofs.NamedProofs.{proved_pool}
use Rattle.cs_witness.proofs.grounds.grounds_of.Goals as goal

pub returns-clause-grounds : goal.returns-clause-grounds
returns-clause-grounds c =
    let entry = c.args.entry.now in
    let run = run_of c.args.run.now in
    let replay = c.in_ok-shown_replay.field-0 in
    let first : c.push.new.self.items ≡ replay ∷ [] = c.in_ok-push.ensures.items
    ∙ ap (λ (l : List Replay). l ++ replay ∷ []) c.new-pool.ensures.items in
    let one : IsPoolOf entry run c.push.new.self.items =
    subst (IsPoolOf entry run) (sym first)
    (pool_of_one entry run replay c.in_ok-shown_replay.ensures.kept c.in_ok-shown_replay.ensures.shown.same) in
    let two = widened entry run c.push.new.self.items c.add_all_corners.new.pool.items one c.in_ok-add_all_corners.ensures.widens in
    let three = widened entry run c.add_all_corners.new.pool.items c.add_further_corners.new.pool.items two c.in_ok-found.ensures.widens in
    let four = named_pool entry run c.add_further_corners.new.pool.items c.name_partners.new.pool.items three c.in_ok-name_partners.ensures.runs in
    let yes : IsTrue c.in_ok-are_real.field-0 = search rules in
    let real : ShowsReal entry.program.now.model c.name_partners.new.pool.items = rw c.as_slice-2.ensures.value at (c.in_ok-are_real.ensures.real yes) in
    grounds_found entry run c.name_partners.new.pool.items c.grounds_in.result four real (rw c.as_slice-3.ensures.value at c.grounds_in.ensures.grounds)

pub returns-clause-found : goal.returns-clause-found
returns-clause-found c =
    let entry = c.args.entry.now in
    let run = run_of c.args.run.now in
    let replay = c.in_ok-shown_replay.field-0 in
    let first : c.push.new.self.items ≡ replay ∷ [] = c.in_ok-push.ensures.items
    ∙ ap (λ (l : List Replay). l ++ replay ∷ []) c.new-pool.ensures.items in
    let pool = c.name_partners.new.pool.items in
    let rows = c.in_ok-found.found.items in
    let named : AreNamed rows pool = rw c.as_slice.ensures.value at c.in_ok-name_partners.ensures.named in
    let one : IsPoolOf entry run c.push.new.self.items =
    subst (IsPoolOf entry run) (sym first)
    (pool_of_one entry run replay c.in_ok-shown_replay.ensures.kept c.in_ok-shown_replay.ensures.shown.same) in
    let two = widened entry run c.push.new.self.items c.add_all_corners.new.pool.items one c.in_ok-add_all_corners.ensures.widens in
    let three = widened entry run c.add_all_corners.new.pool.items c.add_further_corners.new.pool.items two c.in_ok-found.ensures.widens in
    let four = named_pool entry run c.add_further_corners.new.pool.items pool three c.in_ok-name_partners.ensures.runs in
    if_ok c.grounds_in.result (λ found finds evident.
    let proved = proved_pool entry c.args.guesses.now run replay c.push.new.self.items c.add_all_corners.new.pool.items c.add_further_corners.new.pool.items
    pool rows c.in_ok-shown_replay.ensures.shown first c.in_ok-add_all_corners.ensures.corners c.in_ok-found.ensures.none c.in_ok-found.ensures.found
    c.in_ok-name_partners.ensures.runs named evident in
    let mine = four.first in
    finds mine.mine mine.there (proved.grounds mine.mine mine.there)) (rw c.as_slice-3.ensures.value at c.grounds_in.ensures.found)

pub returns-then-not-branch-clause-found : goal.returns-then-not-branch-clause-found
returns-then-not-branch-clause-found c evident =
    let entry = c.args.entry.now in
    let run = run_of c.args.run.now in
    let replay = c.in_ok-shown_replay.field-0 in
    let first : c.push.new.self.items ≡ replay ∷ [] = c.in_ok-push.ensures.items
    ∙ ap (λ (l : List Replay). l ++ replay ∷ []) c.new-pool.ensures.items in
    let pool = c.name_partners.new.pool.items in
    let rows = c.in_ok-found.found.items in
    let named : AreNamed rows pool = rw c.as_slice.ensures.value at c.in_ok-name_partners.ensures.named in
    let proved = proved_pool entry c.args.guesses.now run replay c.push.new.self.items c.add_all_corners.new.pool.items c.add_further_corners.new.pool.items
    pool rows c.in_ok-shown_replay.ensures.shown first c.in_ok-add_all_corners.ensures.corners c.in_ok-found.ensures.none c.in_ok-found.ensures.found
    c.in_ok-name_partners.ensures.runs named evident in
    let yes : IsTrue c.in_ok-are_real.field-0 = c.in_ok-are_real.ensures.convinced (rw c.as_slice-2.ensures.value proved.proved) in
    let no : c.in_ok-are_real.field-0 ≡ false = search rules in
    sym no ∙ yes
