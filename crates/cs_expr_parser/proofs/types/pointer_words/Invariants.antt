use Rattle.std.proofs.Common.{◌≤◌, ◌-◌, length}
use Rattle.cs_expr_parser.proofs.SitesOfWords.{PointersSoFar}
use Rattle.cs_expr_parser.proofs.types.pointer_words.Given as goal

abbrev pub invariant-stars : goal.invariant-stars
invariant-stars l = record {
  onward : l.from ≤ l.next;
  inside : l.next ≤ length l.tokens;
  so_far : PointersSoFar l.tokens l.from l.next l.words.items;
}

abbrev pub decreases-stars : goal.decreases-stars
decreases-stars l = length l.tokens - l.next
