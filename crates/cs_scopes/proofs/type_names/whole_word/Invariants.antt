use Rattle.std.proofs.Common.{◌≡◌, drop}
use Rattle.cs_scopes.specs.TypeNames.{whole_word}
use Rattle.cs_scopes.proofs.type_names.whole_word.Given as goal

abbrev pub invariant-loop-word : goal.invariant-loop-word
invariant-loop-word l = whole_word (drop l.word-index l.words) ≡ whole_word l.words
