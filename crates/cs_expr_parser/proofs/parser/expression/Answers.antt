use Rattle.std.proofs.Common.{subst}
use Rattle.cs_expr_parser.specs.Expression.{level_asked, kind_at, reason_there, IsStopped}
use Rattle.cs_expr_parser.proofs.Answering.{phrase_refused, refusal_is}
use Rattle.cs_expr_parser.proofs.parser.expression.Goals as goal

pub returns-in-Err-Refused-clause-refused : goal.returns-in-Err-Refused-clause-refused
returns-in-Err-Refused-clause-refused c =
    let names = c.args.names.now in
    let level = level_asked c.args.level in
    let tokens = c.args.tokens.now in
    let stopped = subst (IsStopped names level c.args.limit tokens c.args.from) c.in-Err-Refused.field-0-is c.in-Err-Refused.ensures.stopped in
    refusal_is names level c.args.limit tokens c.args.end c.args.from c.in-Err-Refused.at
    (reason_there (kind_at tokens c.in-Err-Refused.at) c.in-Err-Refused.reason) c.refusal.result
    (phrase_refused names level c.args.limit tokens c.args.from c.in-Err-Refused.at c.in-Err-Refused.reason stopped.0 stopped.1) c.refusal.ensures
