-- The remaining limit and the part: the measure of the parts; and the invariant of their loop.
use Rattle.std.proofs.Common.{◌≤◌, ◌<◌, ◌+◌, ◌-◌, ◌*◌, map, length}
use Rattle.cs_ast.specs.declared.token.TokenKind.TheVariants as token
use Rattle.cs_ast.specs.declared.token.Punctuator.TheVariants as punctuator
use Rattle.cs_ast.specs.RawDeclarationView.{initial}
use Rattle.cs_grammar.specs.DeclarationClasses.{Values}
use Rattle.cs_expr_parser.specs.Parts.{is_deep}
use Rattle.cs_declarator_parser.proofs.RowSites.{TrailingRow}
use Rattle.cs_grammar.specs.FileText.{initial_text}
use Rattle.cs_declarator_parser.specs.DeclarationPlaces.{IsInitialPlaced}
use Rattle.cs_declarator_parser.proofs.Placing.{RowPlaced}
use Rattle.cs_expr_parser.specs.Positions.{kind_or_end}
use Rattle.cs_declarator_parser.specs.Aptness.{IsApt}
use Rattle.cs_declarator_parser.proofs.initial.+initial.Given as goal

abbrev pub decreases-initial : goal.decreases-initial
decreases-initial l = 10 * l.limit + 2

abbrev pub decreases-items : goal.decreases-items
decreases-items l = 10 * l.limit + 1

abbrev pub invariant-items-items : goal.invariant-items-items
invariant-items-items l = record {
  onward : l.fn.from + 1 < l.last.next;
  inside : l.last.next ≤ length l.source.tokens.now;
  low : l.height ≤ l.limit - 1;
  apt : IsApt l.scope (kind_or_end l.source.tokens.now l.last.next) l.last.otherwise;
  placed : RowPlaced IsInitialPlaced (λ i. initial_text (initial i)) l.source.tokens.now (l.fn.from + 1) l.list.items l.last.tree l.last.next;
  so_far : TrailingRow (Values l.source.names.now) (token.Punctuator punctuator.CloseBrace) (l.limit - 1) l.source.tokens.now (l.fn.from + 1)
      (map initial l.list.items) (initial l.last.tree) l.last.next (is_deep l.last.otherwise) l.height;
}

abbrev pub decreases-items-items : goal.decreases-items-items
decreases-items-items l = length l.source.tokens.now - l.last.next
