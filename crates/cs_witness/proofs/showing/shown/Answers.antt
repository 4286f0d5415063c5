use Rattle.std.proofs.Common.{◌≡◌, IsTrue, false, map, sym, ◌∙◌, rules}
use Rattle.cs_suspect_types.specs.declared.suspect.SuspectedGuess.{SuspectedGuess}
use Rattle.cs_witness.proofs.CornerLemmas.{if_ok}
use Rattle.cs_witness.proofs.Showings.{so_too}
use Rattle.cs_witness.proofs.EvidentRuns.{ends_as_suspected, passes_as_many, evident_run, all_passed}
use Rattle.cs_witness.proofs.showing.shown.Goals as goal

pub returns-clause-so : goal.returns-clause-so
returns-clause-so c =
    let yes : IsTrue c.is_as_suspected.result = search rules in
    so_too c.with_grounds.result c.in_ok-listed.listed.replayed.outcome c.args.suspect.now.what c.with_grounds.ensures.so (c.is_as_suspected.ensures.so yes)

pub returns-clause-found : goal.returns-clause-found
returns-clause-found c =
    let entry = c.args.entry.now in
    let suspect = c.args.suspect.now in
    let listed = c.in_ok-listed.listed in
    let guesses = c.in_ok-guesses.guesses.items in
    let taken : guesses ≡ map (λ (one : SuspectedGuess). one.guess) suspect.guesses.items = rw c.deref.ensures.value at c.in_ok-guesses.ensures in
    let gives = c.in_ok-listed.ensures.same in
    let is = c.in_ok-listed.ensures.listed in
    let agrees = c.in_ok-listed.ensures.agrees in
    let same = c.in_ok-listed.ensures.guesses in
    if_ok c.with_grounds.result (λ found finds form evident.
    finds (all_passed entry suspect evident guesses taken listed gives is agrees same)
    (evident_run entry suspect evident guesses taken listed gives is agrees same))
    (rw c.deref-2.ensures.value at c.with_grounds.ensures.found)

pub returns-then-not-is_as_suspected-clause-found : goal.returns-then-not-is_as_suspected-clause-found
returns-then-not-is_as_suspected-clause-found c form evident =
    let entry = c.args.entry.now in
    let suspect = c.args.suspect.now in
    let listed = c.in_ok-listed.listed in
    let guesses = c.in_ok-guesses.guesses.items in
    let taken : guesses ≡ map (λ (one : SuspectedGuess). one.guess) suspect.guesses.items = rw c.deref.ensures.value at c.in_ok-guesses.ensures in
    let gives = c.in_ok-listed.ensures.same in
    let yes : IsTrue c.is_as_suspected.result =
    c.is_as_suspected.ensures.yes form (ends_as_suspected entry suspect evident guesses taken listed gives)
    (passes_as_many entry suspect evident guesses taken listed gives) in
    let no : c.is_as_suspected.result ≡ false = search rules in
    sym no ∙ yes
