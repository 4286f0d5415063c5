use Rattle.std.proofs.Common.{◌≡◌, Result, Err, sym, subst, rules}
use Rattle.std.specs.Result.{IfErr}
use Rattle.cs_expr_parser.specs.Expression.{level_asked, IsStopped}
use Rattle.cs_expr_parser.specs.declared.answer.Phrase.{Phrase}
use Rattle.cs_expr_parser.specs.declared.stop.Stop.{Stop}
use Rattle.cs_expr_parser.proofs.Answering.{phrase_taken, stop_is}
use Rattle.cs_expr_parser.proofs.parser.expression_at.Goals as goal

pub returns-clause-taken : goal.returns-clause-taken
returns-clause-taken c =
    phrase_taken c.args.names.now (level_asked c.args.level) c.args.limit c.args.tokens.now c.args.from c.in_ok-taken.taken c.phrase.result
    c.in_ok-taken.ensures.parsed c.phrase.ensures.tree c.phrase.ensures.height c.phrase.ensures.next c.phrase.ensures.otherwise c.in_ok-taken.ensures.placed

pub returns-in_err-taken-clause-stopped : goal.returns-in_err-taken-clause-stopped
returns-in_err-taken-clause-stopped c =
    let names = c.args.names.now in
    let level = level_asked c.args.level in
    let e : c.from_residual.result ≡ Err c.in_err-taken.field-0.0 = search rules in
    subst (λ (r : Result Phrase Stop). IfErr r (IsStopped names level c.args.limit c.args.tokens.now c.args.from)) (sym e)
    (stop_is names level c.args.limit c.args.tokens.now c.args.from c.in_err-taken.field-0.0 c.in_err-taken.ensures.parsed c.in_err-taken.ensures.reported)
