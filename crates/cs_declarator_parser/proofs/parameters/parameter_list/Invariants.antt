use Rattle.std.proofs.Common.{◌≤◌, ◌<◌, ◌-◌, map, length}
use Rattle.cs_ast.specs.RawDeclarationView.{parameter}
use Rattle.cs_declarator_parser.proofs.ParameterRowSites.{ParametersSoFar}
use Rattle.cs_grammar.specs.FileText.{parameter_text}
use Rattle.cs_declarator_parser.specs.DeclarationPlaces.{IsParameterPlaced}
use Rattle.cs_declarator_parser.proofs.Placing.{RowPlaced}
use Rattle.cs_declarator_parser.proofs.parameters.parameter_list.Given as goal

abbrev pub invariant-parameters : goal.invariant-parameters
invariant-parameters l = record {
  onward : l.from < l.last.next;
  inside : l.last.next ≤ length l.source.tokens.now;
  low : l.height ≤ l.limit;
  placed : RowPlaced IsParameterPlaced (λ p. parameter_text (parameter p)) l.source.tokens.now l.from l.list.items l.last.tree l.last.next;
  so_far : ParametersSoFar l.source.names.now l.limit l.source.tokens.now l.from (map parameter l.list.items) (parameter l.last.tree) l.last.next l.height;
}

abbrev pub decreases-parameters : goal.decreases-parameters
decreases-parameters l = length l.source.tokens.now - l.last.next
