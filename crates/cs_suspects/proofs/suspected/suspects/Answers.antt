use Rattle.std.proofs.Common.{◌≡◌, ◌≤◌, ◌+◌, ℕ, [], ◌∷◌, ◌++◌, length, take, get_or, sym, ap, ◌∙◌, arith}
use Rattle.std.specs.Prelude.{Some, slice_get}
use Rattle.std.proofs.lemmas.List.{take_more, take_all}
use Rattle.std.proofs.lemmas.Option.{slice_get-get_or, slice_get_within}
use Rattle.std.proofs.lemmas.List.Elements.{Contains-get_or}
use Rattle.std.proofs.lemmas.Bool.Decides.{nat_tests}
use Rattle.cs_state.specs.Naming.{naming}
use Rattle.cs_suspects.specs.Chosen.{AreOfFindings, AreAllChosen}
use Rattle.cs_suspects.proofs.Suspecting.{suspected_next, all_suspected}
use Rattle.cs_suspects.proofs.suspected.suspects.Goals.{in-Some+in_ok-suspect+in_ok-push, in_default}
use Rattle.cs_suspects.proofs.suspected.suspects.Goals as goal

pub loop-number-preserved : goal.loop-number-preserved
loop-number-preserved c =
    let names = naming c.args.explored.now.tables in
    let ends = c.args.explored.now.ends.items in
    let numbers = c.deref-number-items.result.now in
    let k = c.loop-number.number-index in
    let number : ℕ = get_or numbers k 0 in
    let listed = c.deref-in-loop-number.ensures.value in
    let next : take (k + 1) numbers ≡ take k numbers ++ number ∷ [] = take_more numbers k 0 c.loop-number-test.true in
    elim c.match-get.branch [
      | in-Some+in_ok-suspect+in_ok-push w ↦
          let end = w.in-Some.end.now in
          let lookup = w.in-Some.ensures.lookup in
          let there : slice_get c.deref-in-loop-number.result.now number ≡ Some end =
          slice_get-get_or c.deref-in-loop-number.result.now number end lookup.3.0 ∙ ap Some (sym lookup.1) in
          let at : slice_get ends number ≡ Some end = rw listed at there in
          rw (next, w.suspects-is, w.in_ok-push.ensures.items)
          (suspected_next names ends (take k numbers) c.loop-number.suspects.items number end w.in_ok-suspect.field-0 at
          w.in_ok-suspect.ensures.of_end c.loop-number.invariant)
      | in_default w ↦
          let each : AreOfFindings ends numbers =
          rw (c.deref-number-items.ensures.value, sym c.deref.ensures.value) c.in_ok-numbers.ensures.each in
          let found = each number (Contains-get_or numbers k 0 c.loop-number-test.true) in
          let within = slice_get_within ends number found.0 found.1 in
          absurd (grind (arith, nat_tests, w.in_default.ensures.lookup, ap length listed))
    ]

pub returns-clause-all : goal.returns-clause-all
returns-clause-all c =
    let names = naming c.args.explored.now.tables in
    let ends = c.args.explored.now.ends.items in
    let numbers = c.deref-number-items.result.now in
    let k = c.loop-number.number-index in
    let past : length numbers ≤ k = omega arith in
    let chosen : AreAllChosen ends (take k numbers) =
    rw (take_all k numbers past, c.deref-number-items.ensures.value, sym c.deref.ensures.value) c.in_ok-numbers.ensures.all in
    all_suspected names ends (take k numbers) c.loop-number.suspects.items chosen c.loop-number.invariant
