use Rattle.std.proofs.Common.{◌≤◌, ◌<◌, ◌-◌, map, length}
use Rattle.cs_ast.specs.declared.token.TokenKind.TheVariants as token
use Rattle.cs_ast.specs.declared.token.Punctuator.TheVariants as punctuator
use Rattle.cs_ast.specs.RawDeclarationView.{constant}
use Rattle.cs_grammar.specs.DeclarationClasses.{Constants}
use Rattle.cs_expr_parser.specs.Parts.{is_deep}
use Rattle.cs_declarator_parser.proofs.RowSites.{TrailingRow}
use Rattle.cs_grammar.specs.FileText.{constant_text}
use Rattle.cs_declarator_parser.specs.DeclarationPlaces.{IsConstantPlaced}
use Rattle.cs_declarator_parser.proofs.Placing.{RowPlaced}
use Rattle.cs_expr_parser.specs.Positions.{kind_or_end}
use Rattle.cs_declarator_parser.specs.declared.source.Scope.TheVariants as scope
use Rattle.cs_declarator_parser.specs.Aptness.{IsApt}
use Rattle.cs_declarator_parser.proofs.constants.constants.Given as goal

abbrev pub invariant-constants : goal.invariant-constants
invariant-constants l = record {
  onward : l.from < l.last.next;
  inside : l.last.next ≤ length l.source.tokens.now;
  low : l.height ≤ l.limit;
  apt : IsApt scope.File (kind_or_end l.source.tokens.now l.last.next) l.last.otherwise;
  placed : RowPlaced IsConstantPlaced (λ e. constant_text (constant e)) l.source.tokens.now l.from l.list.items l.last.tree l.last.next;
  so_far : TrailingRow (Constants l.source.names.now) (token.Punctuator punctuator.CloseBrace) l.limit l.source.tokens.now l.from (map constant l.list.items)
      (constant l.last.tree) l.last.next (is_deep l.last.otherwise) l.height;
}

abbrev pub decreases-constants : goal.decreases-constants
decreases-constants l = length l.source.tokens.now - l.last.next
