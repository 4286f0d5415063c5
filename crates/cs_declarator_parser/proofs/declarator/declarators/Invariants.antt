use Rattle.std.proofs.Common.{◌≤◌, ◌<◌, ◌-◌, map, length}
use Rattle.cs_ast.specs.declared.token.TokenKind.TheVariants as token
use Rattle.cs_ast.specs.declared.token.Punctuator.TheVariants as punctuator
use Rattle.cs_ast.specs.RawDeclarationView.{declarator}
use Rattle.cs_expr_parser.specs.Positions.{kind_or_end}
use Rattle.cs_declarator_parser.specs.DeclarationAnswers.{DeclaratorsFor, is_full}
use Rattle.cs_declarator_parser.proofs.RowSites.{RowSoFar}
use Rattle.cs_grammar.specs.FileText.{declarator_text}
use Rattle.cs_declarator_parser.specs.DeclarationPlaces.{IsDeclaratorPlaced}
use Rattle.cs_declarator_parser.proofs.Placing.{RowPlaced}
use Rattle.cs_declarator_parser.proofs.declarator.declarators.Given as goal

abbrev pub invariant-declarators : goal.invariant-declarators
invariant-declarators l = record {
  onward : l.from < l.last.next;
  inside : l.last.next ≤ length l.source.tokens.now;
  low : l.height ≤ l.limit;
  placed : RowPlaced IsDeclaratorPlaced (λ d. declarator_text (declarator d)) l.source.tokens.now l.from l.list.items l.last.tree l.last.next;
  so_far : RowSoFar (DeclaratorsFor l.declares l.source.names.now) (token.Punctuator punctuator.Semicolon) l.limit l.source.tokens.now l.from
      (map declarator l.list.items) (declarator l.last.tree) l.last.next (is_full l.declares (l.limit - 1) (kind_or_end l.source.tokens.now l.last.next))
      l.height;
}

abbrev pub decreases-declarators : goal.decreases-declarators
decreases-declarators l = length l.source.tokens.now - l.last.next
