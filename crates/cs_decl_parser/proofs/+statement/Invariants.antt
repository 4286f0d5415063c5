-- The remaining limit and the part: the measure of the parts; and the invariants of their loops.
use Rattle.std.proofs.Common.{◌≤◌, ◌+◌, ◌-◌, ◌*◌, length}
use Rattle.cs_decl_parser.proofs.BlockSites.{ItemsSoFar, SwitchSoFar}
use Rattle.cs_decl_parser.proofs.PlacingStatements.{ItemsPlaced, SwitchPlaced}
use Rattle.cs_decl_parser.proofs.+statement.Given as goal

abbrev pub decreases-statement::statement : goal.decreases-statement::statement
decreases-statement::statement l = 10 * l.limit + 3

abbrev pub decreases-statement::label : goal.decreases-statement::label
decreases-statement::label l = 10 * l.limit + 1

abbrev pub decreases-block::block : goal.decreases-block::block
decreases-block::block l = 10 * l.limit + 1

abbrev pub decreases-block::items : goal.decreases-block::items
decreases-block::items l = 10 * l.limit + 5

abbrev pub decreases-block::item : goal.decreases-block::item
decreases-block::item l = 10 * l.limit + 4

abbrev pub decreases-branches::if_statement : goal.decreases-branches::if_statement
decreases-branches::if_statement l = 10 * l.limit + 1

abbrev pub decreases-branches::switch_statement : goal.decreases-branches::switch_statement
decreases-branches::switch_statement l = 10 * l.limit + 1

abbrev pub decreases-branches::switch_items : goal.decreases-branches::switch_items
decreases-branches::switch_items l = 10 * l.limit + 6

abbrev pub decreases-branches::switch_item : goal.decreases-branches::switch_item
decreases-branches::switch_item l = 10 * l.limit + 5

abbrev pub decreases-loops::while_statement : goal.decreases-loops::while_statement
decreases-loops::while_statement l = 10 * l.limit + 1

abbrev pub decreases-loops::do_statement : goal.decreases-loops::do_statement
decreases-loops::do_statement l = 10 * l.limit + 1

abbrev pub decreases-loops::for_statement : goal.decreases-loops::for_statement
decreases-loops::for_statement l = 10 * l.limit + 1

abbrev pub invariant-block::items-items : goal.invariant-block::items-items
invariant-block::items-items l = record {
  onward : l.fn.from ≤ l.next;
  inside : l.next ≤ length l.source.tokens.now;
  low : l.height ≤ l.limit;
  so_far : ItemsSoFar l.source.names.now l.limit l.source.tokens.now l.fn.from l.list.items l.height l.next;
  placed : ItemsPlaced l.source.tokens.now l.fn.from l.list.items l.next;
}

abbrev pub decreases-block::items-items : goal.decreases-block::items-items
decreases-block::items-items l = length l.source.tokens.now - l.next

abbrev pub invariant-branches::switch_items-items : goal.invariant-branches::switch_items-items
invariant-branches::switch_items-items l = record {
  onward : l.fn.from ≤ l.next;
  inside : l.next ≤ length l.source.tokens.now;
  low : l.height ≤ l.limit;
  so_far : SwitchSoFar l.source.names.now l.limit l.source.tokens.now l.fn.from l.list.items l.height l.next;
  placed : SwitchPlaced l.source.tokens.now l.fn.from l.list.items l.next;
}

abbrev pub decreases-branches::switch_items-items : goal.decreases-branches::switch_items-items
decreases-branches::switch_items-items l = length l.source.tokens.now - l.next
