use Rattle.std.proofs.Common.{◌≡◌, drop}
use Rattle.cs_scopes.specs.TypeNames.{whole_word}
use Rattle.cs_declarations.specs.Bodies.{plain_words}
use Rattle.cs_declarations.proofs.words.whole_word.Given as goal

abbrev pub invariant-loop-word : goal.invariant-loop-word
invariant-loop-word l = whole_word (plain_words (drop l.word-index l.words)) ≡ whole_word (plain_words l.words)
