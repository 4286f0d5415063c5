use Rattle.std.proofs.Common.{refl, ap, ◌∙◌, arith}
use Rattle.cs_ast.specs.RawStatementView.{switch_list}
use Rattle.cs_ast.specs.RawFileHeight.{switch_height}
use Rattle.cs_ast.proofs.HeightsOfNodes.{sentence_height-Switch}
use Rattle.tests_front.proofs.heights.switch_on.Goals as goal

pub returns : goal.returns
returns c =
    let f = ap (λ l. switch_height (switch_list l)) c.in_ok-items.ensures.items in
    sentence_height-Switch c.in_ok-test.test c.in_ok-items.items refl ∙ omega arith
