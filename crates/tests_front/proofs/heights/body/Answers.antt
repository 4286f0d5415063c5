use Rattle.std.proofs.Common.{◌+◌, refl, ap, ◌∙◌, None}
use Rattle.cs_ast.specs.RawDeclarationView.{members_list}
use Rattle.cs_ast.specs.RawFileHeight.{members_height}
use Rattle.cs_ast.proofs.HeightsOfNodes.{spec_height-Struct}
use Rattle.tests_front.proofs.heights.body.Goals as goal

pub returns : goal.returns
returns c =
    spec_height-Struct None c.in_ok-vec.field-0 refl ∙ ap (λ l. 1 + members_height (members_list l)) c.in_ok-vec.ensures.items
