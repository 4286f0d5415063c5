use Rattle.std.proofs.Common.{◌≢◌, IsTrue, Some, rules}
use Rattle.cs_witness.specs.Evidence.{ends_of, four_of, of_one, of_both}
use Rattle.cs_witness.proofs.CornerLemmas.{if_ok}
use Rattle.cs_witness.proofs.corners.all_of.Goals as goal

pub returns-then-is_same : goal.returns-then-is_same
returns-then-is_same c =
    let yes : IsTrue c.is_same.result = search rules in
    let same = c.is_same.ensures.0 yes in
    if_ok c.two_of.result (λ made each. record { all = ends_of (Some c.args.left.now); are = of_one same; each = each }) c.two_of.ensures

pub returns-else-is_same : goal.returns-else-is_same
returns-else-is_same c =
    let apart : c.args.left.now.symbol ≢ c.args.right.now.symbol = λ same. let yes = c.is_same.ensures.1 same in cc in
    if_ok c.four_of.result (λ made each. record { all = four_of c.args.left.now c.args.right.now; are = of_both apart; each = each }) c.four_of.ensures
