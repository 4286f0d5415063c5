-- After one more token, the longest is at least as long as the token's name.
use Rattle.std.proofs.Common.{◌≡◌, max, ◌∙◌, arith}
use Rattle.std.proofs.Math.Nat.{le-max_left, le-max_right}
use Rattle.cs_unsupported.proofs.NewNames.{max_is, kind_within, item_within}
use Rattle.cs_unsupported.proofs.declarators.longest_name.Goals as goal

pub tokens-preserved : goal.tokens-preserved
tokens-preserved c =
    let m : c.max-longest.result ≡ max c.tokens.longest c.name_length.result = c.max-longest.ensures ∙ max_is c.tokens.longest c.name_length.result in
    let left = le-max_left c.tokens.longest c.name_length.result in
    let right = le-max_right c.tokens.longest c.name_length.result in
    let before = c.tokens.invariant.0 in
    let here = c.name_length.ensures.small in (
      grind (arith, m, before, here),
      λ most longest others.
          c.tokens.invariant.1 most (omega (arith, m, left, longest))
          (item_within most c.tokens.token-index c.args.tokens.now c.token-item.result (omega (arith, c.tokens-test.true)) c.token-item.is
          (kind_within c.name_length.result most c.token-item.result.kind (omega (arith, m, right, longest)) c.name_length.ensures.within) others),
    )
