use Rattle.std.proofs.Common.{length}
use Rattle.cs_words.specs.Meaning.{words_text}
use Rattle.cs_words.specs.Scan.{AreReadTo}
use Rattle.cs_words.proofs.scan.settings_of.Given as goal

abbrev pub invariant-loop-word : goal.invariant-loop-word
invariant-loop-word l = AreReadTo l.verb (words_text l.words) l.found.settings (words_text l.found.rest.now)

abbrev pub decreases-loop-word : goal.decreases-loop-word
decreases-loop-word l = length l.found.rest.now
