-- The spot after all tokens determines the role.
use Rattle.std.proofs.Common.{◌≡◌, List, sym, ap, ◌∙◌}
use Rattle.std.proofs.Math.ListN.{drop_of_length-le}
use Rattle.cs_ast.specs.declared.token.Token.{Token}
use Rattle.cs_unsupported.specs.Spots.{Spot, the_start, run, is_declared}
use Rattle.cs_unsupported.specs.Readings.{kinds, spot_of}
use Rattle.cs_unsupported.proofs.Files.{may_have, has_spot}
use Rattle.cs_unsupported.proofs.members.is_after_member.Goals as goal

pub returns : goal.returns
returns c = λ b.
    let all : spot_of c.tokens.reading ≡ run (kinds c.args.before.now) the_start =
    ap (λ (rest : List Token). run (kinds rest) (spot_of c.tokens.reading)) (sym (drop_of_length-le c.args.before.now c.tokens-test.false))
    ∙ c.tokens.invariant in
    let reported = c.is_declared.ensures ∙ ap (λ (s : Spot). is_declared s.phase) all in
    (λ is. may_have (kinds c.args.before.now) b (sym reported ∙ is), λ may. reported ∙ has_spot (kinds c.args.before.now) may)
