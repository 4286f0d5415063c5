-- So many external declarations were taken, and the typedef names after them are known.
use Rattle.std.proofs.Common.{◌≤◌, ◌-◌, length}
use Rattle.cs_decl_parser.specs.Files.{parts_of}
use Rattle.cs_decl_parser.proofs.FileSites.{PartsSoFar}
use Rattle.cs_decl_parser.proofs.PlacingFiles.{PartsPlaced}
use Rattle.cs_decl_parser.proofs.externals.Parts.read.Given as goal

abbrev pub invariant-file : goal.invariant-file
invariant-file l = record {
  inside : l.self.next ≤ length l.tokens;
  so_far : PartsSoFar l.self.names l.tokens (parts_of l.self.list.items) l.self.next;
  placed : PartsPlaced l.tokens l.self.list.items l.self.next;
}

abbrev pub decreases-file : goal.decreases-file
decreases-file l = length l.tokens - l.self.next
