-- No tokens remain.
use Rattle.std.proofs.Common.{List, sym, ap, ◌∙◌}
use Rattle.std.proofs.Math.ListN.{drop_of_length-le}
use Rattle.cs_ast.specs.declared.token.Token.{Token}
use Rattle.cs_unsupported.specs.Sites.{run}
use Rattle.cs_unsupported.specs.Readings.{kinds, site_of}
use Rattle.cs_unsupported.proofs.inside.read.Goals as goal

pub returns : goal.returns
returns c = ap (λ (rest : List Token). run (kinds rest) (site_of c.tokens.reading)) (sym (drop_of_length-le c.args.before.now c.tokens-test.false))
    ∙ c.tokens.invariant
