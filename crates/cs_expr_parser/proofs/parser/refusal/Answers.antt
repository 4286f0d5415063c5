use Rattle.std.proofs.Common.{Some, sym, ap, ◌∙◌}
use Rattle.std.proofs.lemmas.Option.{slice_get_past, slice_get-get_or}
use Rattle.cs_expr_parser.proofs.Answering.{refusal_at_end, refusal_at_token}
use Rattle.cs_expr_parser.proofs.parser.refusal.Goals as goal

pub returns-in-None : goal.returns-in-None
returns-in-None c = refusal_at_end c.args.tokens.now c.args.end c.args.at c.args.reason (slice_get_past c.args.tokens.now c.args.at c.in-None.ensures.lookup.3)

pub returns-in-Some : goal.returns-in-Some
returns-in-Some c =
    let found = c.in-Some.ensures.lookup.3 in
    refusal_at_token c.args.tokens.now c.args.end c.args.at c.in-Some.token.now c.args.reason c.refusal_of.result
    (slice_get-get_or c.args.tokens.now c.args.at c.in-Some.token.now found.0 ∙ ap Some (sym (found.1 c.in-Some.token.now))) c.refusal_of.ensures
