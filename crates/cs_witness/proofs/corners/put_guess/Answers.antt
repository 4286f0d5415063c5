use Rattle.std.proofs.Common.{◌≡◌, ◌<◌, ◌≤◌, ◌++◌, map, take, drop, set, get_or, length, ap, ◌∙◌, arith}
use Rattle.std.specs.Prelude.{pos}
use Rattle.std.specs.Int.{w128}
use Rattle.std.proofs.lemmas.Int.{to_z-of_z}
use Rattle.std.proofs.lemmas.List.{take_all, drop_all, append-nil}
use Rattle.cs_events.specs.declared.guess.Guess.{Guess}
use Rattle.cs_witness.specs.Corners.{put_guess}
use Rattle.cs_witness.proofs.CornerLemmas.{place_read, place_set}
use Rattle.cs_witness.proofs.corners.put_guess.Goals as goal

pub loop-guess-preserved : goal.loop-guess-preserved
loop-guess-preserved c =
    let guesses = c.args.guesses.now in
    let i = c.loop-guess.guess-index in
    let d : Guess = record { event = 0; number = pos 0 } in
    let below : i < length guesses = omega arith in
    let plain = to_z-of_z w128 c.args.number c.ranges.number in
    let f = put_guess c.args.event c.args.number in
    let so : c.loop-guess.guesses ≡ map f (take i guesses) ++ drop i guesses = rw plain at c.loop-guess.invariant in
    let one : c.other_guess.result ≡ f (get_or c.loop-guess.guesses i d) = rw plain at c.other_guess.ensures in
    let read : get_or c.loop-guess.guesses i d ≡ get_or guesses i d =
    ap (λ l. get_or l i d) so ∙ place_read f guesses i d below in
    rw plain ((λ j. set (so j) i ((one ∙ ap f read) j)) ∙ place_set f guesses i d below)

pub returns : goal.returns
returns c =
    let guesses = c.args.guesses.now in
    let plain = to_z-of_z w128 c.args.number c.ranges.number in
    let f = put_guess c.args.event c.args.number in
    let i = c.loop-guess.guess-index in
    let none : length guesses ≤ i = omega arith in
    let so : c.loop-guess.guesses ≡ map f (take i guesses) ++ drop i guesses = rw plain at c.loop-guess.invariant in
    so ∙ (λ j. map f (take_all i guesses none j) ++ drop_all i guesses none j) ∙ append-nil (map f guesses)
