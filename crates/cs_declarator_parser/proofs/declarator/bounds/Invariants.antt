use Rattle.std.proofs.Common.{◌≤◌, ◌-◌, length}
use Rattle.cs_declarator_parser.proofs.DeclaratorSites.{BoundsSoFar}
use Rattle.cs_declarator_parser.proofs.Placing.{SidePlaced, HasBracket, bracket_text}
use Rattle.cs_declarator_parser.proofs.declarator.bounds.Given as goal

abbrev pub invariant-bounds : goal.invariant-bounds
invariant-bounds l = record {
  onward : l.from ≤ l.next;
  inside : l.next ≤ length l.source.tokens.now;
  low : l.height ≤ l.limit;
  placed : SidePlaced HasBracket bracket_text l.source.tokens.now l.from l.list.items l.next;
  so_far : BoundsSoFar l.declares l.source.names.now l.limit l.source.tokens.now l.from l.next l.list.items l.height;
}

abbrev pub decreases-bounds : goal.decreases-bounds
decreases-bounds l = length l.source.tokens.now - l.next
