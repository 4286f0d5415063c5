-- The state after all tokens determines the role.
use Rattle.std.proofs.Common.{◌≡◌, false, List, sym, ap, ◌∙◌}
use Rattle.std.proofs.Math.ListN.{drop_of_length-le}
use Rattle.cs_ast.specs.declared.token.Token.{Token}
use Rattle.cs_unsupported.specs.Awaiting.{run}
use Rattle.cs_unsupported.specs.Readings.{kinds}
use Rattle.cs_unsupported.proofs.ListFiles.{awaited, may_open}
use Rattle.cs_unsupported.proofs.lists.awaits_list.Goals as goal

pub returns : goal.returns
returns c =
    let all : c.tokens.awaits ≡ run (kinds c.args.before.now) false =
    ap (λ (rest : List Token). run (kinds rest) c.tokens.awaits) (sym (drop_of_length-le c.args.before.now c.tokens-test.false)) ∙ c.tokens.invariant in
    (λ may. let a = awaited (kinds c.args.before.now) may in (all ∙ a.0, a.1), λ is. may_open (kinds c.args.before.now) (sym all ∙ is.0) is.1)
