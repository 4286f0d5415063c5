use Rattle.std.proofs.Common.{ap}
use Rattle.cs_terms.specs.declared.term.Lin.{Lin}
use Rattle.cs_terms.specs.Term.{Valuation, value_of}
use Rattle.std.specs.Prelude.{◌-ℤ◌}
use Rattle.cs_eval.proofs.Sums.{sum_of}
use Rattle.cs_eval.proofs.integers.difference.Goals as goal

pub returns : goal.returns
returns c =
    let left = c.args.left in
    let right = c.args.right in
    sum_of left right c.diff.result.first c.diff.result.second (λ (v : Valuation). value_of v left -ℤ value_of v right) c.add.result
    c.diff.ensures.value (ap (λ (t : Lin). t.sym) c.diff.ensures.first) c.diff.ensures.symbol c.add.ensures.value c.add.ensures.none
    c.add.ensures.term c.add.ensures.symbol
