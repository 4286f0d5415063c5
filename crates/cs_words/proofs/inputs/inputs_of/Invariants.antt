use Rattle.std.proofs.Common.{◌≤◌, length}
use Rattle.cs_words.specs.Meaning.{words_text}
use Rattle.cs_words.proofs.EnteredInputs.{AreEnteredTo}
use Rattle.cs_words.proofs.inputs.inputs_of.Given as goal

abbrev pub invariant-loop-word : goal.invariant-loop-word
invariant-loop-word l = AreEnteredTo (words_text l.following) l.inputs (words_text l.rest) × (length l.rest ≤ length l.words)

abbrev pub decreases-loop-word : goal.decreases-loop-word
decreases-loop-word l = length l.rest
