use Rattle.std.proofs.Common.{drop, ℕ, ◌≤◌, ◌-◌, map, length}
use Rattle.cs_ast.specs.declared.token.TokenKind.TheVariants as token
use Rattle.cs_ast.specs.declared.token.Punctuator.TheVariants as punctuator
use Rattle.cs_ast.specs.RawDeclarationView.{declared}
use Rattle.cs_grammar.specs.DeclarationClasses.{Objects}
use Rattle.cs_expr_parser.specs.Parts.{is_deep}
use Rattle.cs_declarator_parser.specs.Answers.{IsUnclosed}
use Rattle.cs_declarator_parser.proofs.RowSites.{RowSoFar}
use Rattle.cs_grammar.specs.FileText.{declared_text}
use Rattle.cs_declarator_parser.specs.DeclarationPlaces.{IsDeclaredPlaced}
use Rattle.cs_declarator_parser.proofs.Placing.{RowPlaced}
use Rattle.cs_expr_parser.specs.Positions.{kind_or_end}
use Rattle.cs_declarator_parser.specs.Aptness.{IsApt}
use Rattle.cs_declarator_parser.proofs.objects.with_others.Given as goal

abbrev pub invariant-objects : goal.invariant-objects
invariant-objects l = record {
  onward : l.fn.first.next ≤ l.last.next;
  inside : l.last.next ≤ length l.source.tokens.now;
  low : l.height ≤ l.limit;
  apt : IsApt l.scope (kind_or_end l.source.tokens.now l.last.next) l.last.otherwise;
  placed : (from : ℕ) → IsUnclosed (Objects l.source.names.now) declared l.limit l.source.tokens.now from l.fn.first
      → IsDeclaredPlaced l.fn.first.tree (drop from l.source.tokens.now)
      → RowPlaced IsDeclaredPlaced (λ d. declared_text (declared d)) l.source.tokens.now from l.list.items l.last.tree l.last.next;
  so_far : (from : ℕ) → IsUnclosed (Objects l.source.names.now) declared l.limit l.source.tokens.now from l.fn.first
      → RowSoFar (Objects l.source.names.now) (token.Punctuator punctuator.Semicolon) l.limit l.source.tokens.now from (map declared l.list.items)
      (declared l.last.tree) l.last.next (is_deep l.last.otherwise) l.height;
}

abbrev pub decreases-objects : goal.decreases-objects
decreases-objects l = length l.source.tokens.now - l.last.next
