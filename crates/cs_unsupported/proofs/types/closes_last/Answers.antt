-- The state after all tokens is the result.
use Rattle.std.proofs.Common.{List, sym, ap, ◌∙◌}
use Rattle.std.proofs.Math.ListN.{drop_of_length-le}
use Rattle.cs_ast.specs.declared.token.Token.{Token}
use Rattle.cs_unsupported.specs.Parentheses.{run}
use Rattle.cs_unsupported.specs.Readings.{kinds, parens_of}
use Rattle.cs_unsupported.proofs.types.closes_last.Goals as goal

pub returns : goal.returns
returns c =
    ap (λ (rest : List Token). run c.args.names.now (kinds rest) (parens_of c.tokens.reading) c.tokens.reading.closes)
    (sym (drop_of_length-le c.args.part.now c.tokens-test.false)) ∙ c.tokens.invariant
