use Rattle.std.proofs.Common.{rules}
use Rattle.cs_eval.proofs.truths.guessed_truths.Goals as goal

pub returns-clause-pieces : goal.returns-clause-pieces
returns-clause-pieces c = record {
  held = c.in_ok-yes.yes;
  failed = c.in_ok-no.no;
  made = search rules;
  held_is = c.in_ok-yes.ensures.piece;
  failed_is = c.in_ok-no.ensures.piece;
}
