use Rattle.std.proofs.Common.{refl, ap, ◌∙◌}
use Rattle.cs_ast.specs.RawDeclarations.{StructBody}
use Rattle.cs_ast.specs.RawDeclarationView.{members_list}
use Rattle.cs_ast.proofs.RawDeclarationRows.{spec-Struct}
use Rattle.cs_declarator_parser.proofs.PlacingSpecs.{struct_inside}
use Rattle.cs_declarator_parser.proofs.specs.structure.Goals as goal

pub returns-clause-word : goal.returns-clause-word
returns-clause-word c = record {
  word_is = spec-Struct _ c.args.members.tree ∙ ap (λ n. StructBody n (members_list c.args.members.tree.items)) c.split-name.ensures.name;
  whole = refl;
}

pub returns-clause-placed : goal.returns-clause-placed
returns-clause-placed c = λ tokens a. struct_inside _ _ c.args.members.tree tokens c.split-name.ensures.name a
