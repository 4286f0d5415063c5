use Rattle.std.proofs.Common.{◌≡◌, sym, ap, ◌∙◌, subst}
use Rattle.std.specs.List.{list_all}
use Rattle.cs_ast.specs.declared.raw.declaration.RawParameters.{RawParameters}
use Rattle.cs_ast.specs.RawDeclarationView.{parameters}
use Rattle.cs_grammar.specs.FilePhrases.{AreNamed}
use Rattle.cs_declarator_parser.specs.ParameterAnswers.{has_name}
use Rattle.cs_declarator_parser.proofs.ParameterRowSites.{all_named, named_all}
use Rattle.cs_declarator_parser.proofs.parameters.are_named.Goals as goal

pub returns-in-List : goal.returns-in-List
returns-in-List c =
    let same : list_all has_name c.deref.result.now ≡ list_all has_name c.in-List.list.items = ap (list_all has_name) c.deref.ensures.value in (
      λ e. subst (λ (x : RawParameters). AreNamed (parameters x)) (sym c.in-List.is)
          (all_named c.in-List.list.items (sym same ∙ sym c.have_names.ensures ∙ e)),
      λ are. c.have_names.ensures ∙ same ∙ named_all c.in-List.list.items (subst (λ (x : RawParameters). AreNamed (parameters x)) c.in-List.is are),
    )
