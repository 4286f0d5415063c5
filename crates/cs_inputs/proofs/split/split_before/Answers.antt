use Rattle.std.proofs.Common.{◌==◌, not, ap, ◌∙◌, take, drop, arith}
use Rattle.std.proofs.lemmas.List.Sums.{prefix_len-le-length}
use Rattle.cs_inputs.proofs.Splits.{splits_at_first}
use Rattle.cs_inputs.proofs.split.split_before.Goals as goal

pub split_at-requires : goal.split_at-requires
split_at-requires c = omega (arith, prefix_len-le-length (λ b. not (b == c.args.separator)) c.args.text.now)

pub returns : goal.returns
returns c =
    let text = c.args.text.now in
    splits_at_first c.args.separator text c.split_at.result.0.now c.split_at.result.1.now (c.split_at.ensures.front
    ∙ ap (λ i. take i text) c.length_before.ensures) (c.split_at.ensures.back ∙ ap (λ i. drop i text) c.length_before.ensures)
    c.split_at.ensures.by_index.0
