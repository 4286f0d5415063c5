use Rattle.std.proofs.Common.{◌≡◌, ◌≤◌, ◌-◌, length}
use Rattle.cs_expr_parser.specs.Words.{last_tagged}
use Rattle.cs_expr_parser.proofs.TagPlaces.{TagSoFar}
use Rattle.cs_expr_parser.proofs.SitesOfWords.{WordsSoFar}
use Rattle.cs_expr_parser.proofs.types.type_words.Given as goal

abbrev pub invariant-words : goal.invariant-words
invariant-words l = record {
  onward : l.from ≤ l.next;
  inside : l.next ≤ length l.tokens;
  so_far : WordsSoFar l.names l.tokens l.from l.next l.so_far l.words.items;
  tagged : l.tagged ≡ last_tagged l.words.items;
  placed : TagSoFar l.tokens l.from l.next l.words.items l.tag;
}

abbrev pub decreases-words : goal.decreases-words
decreases-words l = length l.tokens - l.next
