-- A list may open where an initializer is expected and a file continues with a brace.
use Rattle.std.proofs.Common.{take, sym, ◌∙◌}
use Rattle.std.proofs.lemmas.Bool.{false≢true}
use Rattle.cs_expr_parser.specs.Positions.{kinds}
use Rattle.cs_decl_parser.proofs.ReportedReasons.{list_reported}
use Rattle.cs_decl_parser.proofs.reason.may_open_list.Goals as goal

pub returns : goal.returns
returns c = λ b.
    list_reported (kinds (take c.args.at c.args.tokens.now)) c.awaits_list.result c.awaits_list.ensures c.in_ok-on.on
    (λ f. absurd (false≢true (sym f ∙ c.if-not-awaits_list.false))) (λ t. c.in_ok-on.ensures b)
