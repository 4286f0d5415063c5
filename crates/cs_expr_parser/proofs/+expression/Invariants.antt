-- The remaining limit and the part: the measure of the parser's parts; and the invariants of their loops.
use Rattle.std.proofs.Common.{◌≤◌, ◌<◌, ◌+◌, ◌-◌, ◌*◌, length, drop}
use Rattle.cs_ast.specs.RawView.{written_list}
use Rattle.cs_grammar.specs.Levels.{COMMA, POSTFIX}
use Rattle.cs_grammar.specs.Places.{HasPlaces}
use Rattle.cs_expr_parser.proofs.SitesOfPlaces.{ArgumentsPlaced, BoundsPlaced}
use Rattle.cs_expr_parser.specs.Parts.{IsChainFrom}
use Rattle.cs_expr_parser.proofs.SitesOfRows.{ArgumentsSoFar, BoundsSoFar}
use Rattle.cs_expr_parser.proofs.+expression.Given as goal

abbrev pub decreases-primary::primary : goal.decreases-primary::primary
decreases-primary::primary l = 100 * l.limit + 10

abbrev pub decreases-postfix::postfix : goal.decreases-postfix::postfix
decreases-postfix::postfix l = 100 * l.limit + 16

abbrev pub decreases-postfix::suffixed : goal.decreases-postfix::suffixed
decreases-postfix::suffixed l = 100 * l.limit + 12

abbrev pub decreases-lists::arguments : goal.decreases-lists::arguments
decreases-lists::arguments l = 100 * l.limit + 55

abbrev pub decreases-lists::bounds : goal.decreases-lists::bounds
decreases-lists::bounds l = 100 * l.limit + 50

abbrev pub decreases-types::parenthesised_type : goal.decreases-types::parenthesised_type
decreases-types::parenthesised_type l = 100 * l.limit + 52

abbrev pub decreases-unary::cast : goal.decreases-unary::cast
decreases-unary::cast l = 100 * l.limit + 20

abbrev pub decreases-unary::unary : goal.decreases-unary::unary
decreases-unary::unary l = 100 * l.limit + 18

abbrev pub decreases-unary::sized : goal.decreases-unary::sized
decreases-unary::sized l = 100 * l.limit + 17

abbrev pub decreases-loose::choice : goal.decreases-loose::choice
decreases-loose::choice l = 100 * l.limit + 45

abbrev pub decreases-loose::assign : goal.decreases-loose::assign
decreases-loose::assign l = 100 * l.limit + 50

abbrev pub decreases-loose::comma : goal.decreases-loose::comma
decreases-loose::comma l = 100 * l.limit + 60

abbrev pub decreases-infix::infix : goal.decreases-infix::infix
decreases-infix::infix l = 100 * l.limit + 40 - l.level

abbrev pub decreases-postfix::postfix-chain : goal.decreases-postfix::postfix-chain
decreases-postfix::postfix-chain l = length l.tokens - l.left.next

abbrev pub invariant-postfix::postfix-chain : goal.invariant-postfix::postfix-chain
invariant-postfix::postfix-chain l = record {
  onward : l.fn.from < l.left.next;
  inside : l.left.next ≤ length l.tokens;
  some : 1 ≤ l.left.height;
  low : l.left.height ≤ l.limit;
  chain : IsChainFrom l.names POSTFIX l.limit l.tokens l.fn.from l.left;
  placed : HasPlaces l.left.tree (drop l.fn.from l.tokens);
}

abbrev pub decreases-infix::infix-chain : goal.decreases-infix::infix-chain
decreases-infix::infix-chain l = length l.tokens - l.left.next

abbrev pub invariant-infix::infix-chain : goal.invariant-infix::infix-chain
invariant-infix::infix-chain l = record {
  onward : l.fn.from < l.left.next;
  inside : l.left.next ≤ length l.tokens;
  some : 1 ≤ l.left.height;
  low : l.left.height ≤ l.limit;
  chain : IsChainFrom l.names l.level l.limit l.tokens l.fn.from l.left;
  placed : HasPlaces l.left.tree (drop l.fn.from l.tokens);
}

abbrev pub decreases-loose::comma-chain : goal.decreases-loose::comma-chain
decreases-loose::comma-chain l = length l.tokens - l.first.next

abbrev pub invariant-loose::comma-chain : goal.invariant-loose::comma-chain
invariant-loose::comma-chain l = record {
  onward : l.fn.from < l.first.next;
  inside : l.first.next ≤ length l.tokens;
  some : 1 ≤ l.first.height;
  low : l.first.height ≤ l.limit;
  chain : IsChainFrom l.names COMMA l.limit l.tokens l.fn.from l.first;
  placed : HasPlaces l.first.tree (drop l.fn.from l.tokens);
}

abbrev pub decreases-lists::arguments-row : goal.decreases-lists::arguments-row
decreases-lists::arguments-row l = length l.tokens - l.last.next

abbrev pub invariant-lists::arguments-row : goal.invariant-lists::arguments-row
invariant-lists::arguments-row l = record {
  onward : l.fn.from < l.last.next;
  inside : l.last.next ≤ length l.tokens;
  low : l.height ≤ l.limit;
  so_far : ArgumentsSoFar l.names l.limit l.tokens l.fn.from (written_list l.trees.items) l.height l.last;
  placed : ArgumentsPlaced l.tokens l.fn.from l.trees.items l.last;
}

abbrev pub decreases-lists::bounds-row : goal.decreases-lists::bounds-row
decreases-lists::bounds-row l = length l.tokens - l.next

abbrev pub invariant-lists::bounds-row : goal.invariant-lists::bounds-row
invariant-lists::bounds-row l = record {
  onward : l.fn.from ≤ l.next;
  inside : l.next ≤ length l.tokens;
  low : l.height ≤ l.limit;
  so_far : BoundsSoFar l.names l.limit l.tokens l.fn.from l.next (written_list l.trees.items) l.height;
  placed : BoundsPlaced l.tokens l.fn.from l.next l.trees.items;
}
