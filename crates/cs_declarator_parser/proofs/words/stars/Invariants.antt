use Rattle.std.proofs.Common.{◌≤◌, ◌-◌, length}
use Rattle.cs_declarator_parser.proofs.DeclaratorSites.{PointersSoFar}
use Rattle.cs_declarator_parser.proofs.words.stars.Given as goal

abbrev pub invariant-stars : goal.invariant-stars
invariant-stars l = record {
  onward : l.from ≤ l.next;
  inside : l.next ≤ length l.source.tokens.now;
  so_far : PointersSoFar l.source.tokens.now l.from l.next l.words.items;
}

abbrev pub decreases-stars : goal.decreases-stars
decreases-stars l = length l.source.tokens.now - l.next
