use Rattle.std.proofs.Common.{rules, ◌≡◌, refl, arith, to_z, of_z}
use Rattle.std.specs.Int.{w128}
use Rattle.std.proofs.lemmas.Int.{ints}
use Rattle.cs_eval.proofs.pieces.guessed_piece.Goals as goal

pub declare-requires : goal.declare-requires
declare-requires c =
    let low : to_z w128 (of_z w128 c.args.numbers.low) ≡ c.args.numbers.low = search rules in
    let high : to_z w128 (of_z w128 c.args.numbers.high) ≡ c.args.numbers.high = search rules in
    let has = c.in_ok-numbers.ensures.numbers c.args.numbers.low in
    let ordered = c.requires.ordered in
    (c.args.numbers.low, grind (arith, ints))

pub returns-clause-piece : goal.returns-clause-piece
returns-clause-piece c =
    let low : to_z w128 (of_z w128 c.args.numbers.low) ≡ c.args.numbers.low = search rules in
    let high : to_z w128 (of_z w128 c.args.numbers.high) ≡ c.args.numbers.high = search rules in
    record {
      shown = refl;
      what = c.args.guessed;
      guessed = refl;
      answer = c.symbol_itself.ensures;
      set = c.in_ok-numbers.numbers;
      numbers_are = λ x. rw (low, high) at (c.in_ok-numbers.ensures.numbers x);
      declared = record { here = c.in_ok-declare.ensures.here; elsewhere = c.in_ok-declare.ensures.elsewhere };
      inhabited = search rules;
    }
