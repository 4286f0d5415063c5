use Rattle.std.proofs.Common.{◌≡◌, ◌∙◌, pos, to_z, of_z, rules}
use Rattle.std.specs.Int.{w128}
use Rattle.std.specs.Prelude.{unwrap_or}
use Rattle.cs_suspects.proofs.Solutions.{is_number}
use Rattle.cs_suspects.proofs.numbers.number_of.Goals as goal

pub returns : goal.returns
returns c v solution =
    let same : to_z w128 (of_z w128 c.unwrap_or.result) ≡ c.unwrap_or.result = search rules in
    let found : c.unwrap_or.result ≡ unwrap_or c.solution.result (pos 0) = search rules in
    same ∙ found ∙ is_number c.args.state.now.constraints c.args.sym.0 c.solution.result c.solution.ensures v solution
