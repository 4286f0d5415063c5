use Rattle.std.proofs.Common.{◌≤◌, ◌<◌, ◌-◌, length}
use Rattle.std.specs.Prelude.{IsTrue}
use Rattle.cs_expr_parser.specs.Words.{names_some}
use Rattle.cs_declarator_parser.proofs.BlockSpecSites.{WordsSoFar}
use Rattle.cs_declarator_parser.proofs.PlacingSpecs.{SpecsPlaced}
use Rattle.cs_declarator_parser.proofs.block_specs.block_specs.Given as goal

abbrev pub invariant-words : goal.invariant-words
invariant-words l = record {
  onward : l.from ≤ l.next;
  inside : l.next ≤ length l.source.tokens.now;
  typed : IsTrue (names_some l.so_far) → l.from < l.next;
  placed : SpecsPlaced l.source.tokens.now l.from l.next l.words.items l.tag;
  so_far : WordsSoFar l.source.names.now l.source.tokens.now l.from l.next l.so_far l.words.items;
}

abbrev pub decreases-words : goal.decreases-words
decreases-words l = length l.source.tokens.now - l.next
