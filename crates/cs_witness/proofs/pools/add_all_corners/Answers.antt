use Rattle.std.proofs.Common.{◌≡◌, ◌+◌, ◌<◌, ◌≤◌, ◌++◌, ◌∷◌, [], take, length, sym, ap, ◌∙◌, subst, arith}
use Rattle.std.proofs.lemmas.List.{take_more, take_all}
use Rattle.cs_findings.specs.Runs.{run_of}
use Rattle.cs_suspect_types.specs.declared.suspect.SuspectedGuess.{SuspectedGuess}
use Rattle.cs_witness.specs.Pooling.{AddsAllCorners}
use Rattle.cs_witness.proofs.PoolLemmas.{widens_none, widens_on}
use Rattle.cs_witness.proofs.PoolCorners.{adds_none, adds_more}
use Rattle.cs_witness.proofs.pools.add_all_corners.Goals as goal

pub loop-guess-init : goal.loop-guess-init
loop-guess-init c = record {
  widens = widens_none c.args.entry.now c.args.pool.now.items;
  corners = adds_none c.args.entry.now (run_of c.args.run.now) c.args.pool.now.items;
}

pub loop-guess-preserved : goal.loop-guess-preserved
loop-guess-preserved c =
    let entry = c.args.entry.now in
    let run = run_of c.args.run.now in
    let old = c.args.pool.now.items in
    let pool = c.loop-guess.pool.items in
    let new = c.add_corners.new.pool.items in
    let guesses = c.args.guesses.now in
    let i = c.loop-guess.guess-index in
    let guess = c.guess-item.result in
    let below : i < length guesses = omega arith in
    let taken : take (i + 1) guesses ≡ take i guesses ++ guess ∷ [] = take_more guesses i guess below
    ∙ ap (λ (g : SuspectedGuess). take i guesses ++ g ∷ []) (sym c.guess-item.is) in
    record {
      widens = widens_on entry old pool new c.loop-guess.invariant.widens c.in_ok-add_corners.ensures.widens;
      corners = subst (λ l. AddsAllCorners entry run l old new) (sym taken)
          (adds_more entry run (take i guesses) guess old pool new c.loop-guess.invariant.corners c.in_ok-add_corners.ensures.corners);
    }

pub returns-clause-corners : goal.returns-clause-corners
returns-clause-corners c =
    let guesses = c.args.guesses.now in
    let none : length guesses ≤ c.loop-guess.guess-index = omega arith in
    subst (λ l. AddsAllCorners c.args.entry.now (run_of c.args.run.now) l c.args.pool.now.items c.loop-guess.pool.items)
    (take_all c.loop-guess.guess-index guesses none) c.loop-guess.invariant.corners
