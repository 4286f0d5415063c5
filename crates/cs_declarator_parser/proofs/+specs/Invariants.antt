-- The remaining limit and the part: the measure of the parts; and the invariants of their loops.
use Rattle.std.proofs.Common.{◌≤◌, ◌<◌, ◌+◌, ◌-◌, ◌*◌, length}
use Rattle.std.specs.Prelude.{IsTrue}
use Rattle.cs_expr_parser.specs.Words.{names_some}
use Rattle.cs_declarator_parser.proofs.SpecSites.{SpecsSoFar}
use Rattle.cs_declarator_parser.proofs.PlacingSpecs.{SpecsPlaced}
use Rattle.cs_declarator_parser.proofs.MemberSites.{MembersSoFar}
use Rattle.cs_declarator_parser.specs.SpecPlaces.{IsGroupPlaced, group_text}
use Rattle.cs_declarator_parser.proofs.Placing.{SidePlaced}
use Rattle.cs_declarator_parser.proofs.+specs.Given as goal

abbrev pub decreases-specs::specs : goal.decreases-specs::specs
decreases-specs::specs l = 10 * l.limit + 4

abbrev pub decreases-specs::word_at : goal.decreases-specs::word_at
decreases-specs::word_at l = 10 * l.limit + 3

abbrev pub decreases-specs::tagged : goal.decreases-specs::tagged
decreases-specs::tagged l = 10 * l.limit + 2

abbrev pub decreases-specs::with_body : goal.decreases-specs::with_body
decreases-specs::with_body l = 10 * l.limit + 1

abbrev pub decreases-members::members : goal.decreases-members::members
decreases-members::members l = 10 * l.limit + 6

abbrev pub decreases-members::member : goal.decreases-members::member
decreases-members::member l = 10 * l.limit + 5

abbrev pub invariant-specs::specs-words : goal.invariant-specs::specs-words
invariant-specs::specs-words l = record {
  onward : l.fn.from ≤ l.next;
  inside : l.next ≤ length l.source.tokens.now;
  low : l.height ≤ l.limit;
  typed : IsTrue (names_some l.so_far) → l.fn.from < l.next;
  placed : SpecsPlaced l.source.tokens.now l.fn.from l.next l.words.items l.tag;
  so_far : SpecsSoFar l.source.names.now l.source.tokens.now l.fn.from l.next l.so_far l.words.items l.height;
}

abbrev pub decreases-specs::specs-words : goal.decreases-specs::specs-words
decreases-specs::specs-words l = length l.source.tokens.now - l.next

abbrev pub invariant-members::members-members : goal.invariant-members::members-members
invariant-members::members-members l = record {
  onward : l.fn.from ≤ l.next;
  inside : l.next ≤ length l.source.tokens.now;
  low : l.height ≤ l.limit;
  placed : SidePlaced IsGroupPlaced group_text l.source.tokens.now l.fn.from l.list.items l.next;
  so_far : MembersSoFar l.source.names.now l.limit l.source.tokens.now l.fn.from l.next l.list.items l.height;
}

abbrev pub decreases-members::members-members : goal.decreases-members::members-members
decreases-members::members-members l = length l.source.tokens.now - l.next
