use Rattle.std.proofs.Common.{rules, subst}
use Rattle.cs_constraints.specs.Constraints.{Sets}
use Rattle.cs_eval.specs.Wraps.{IsWrapGuess}
use Rattle.cs_eval.proofs.wraps.wrap_guess.Goals as goal

pub returns : goal.returns
returns c = record {
  piece = c.in_ok-piece.piece;
  made = search rules;
  guessed = subst (λ (sets : Sets). IsWrapGuess c.args.setting.now.model sets c.args.setting.now.guess.0 c.args.inexact.now c.in_ok-piece.piece)
      c.in_ok-constraints.ensures.same c.in_ok-piece.ensures.piece;
  records = c.in_ok-piece.ensures.records;
}
