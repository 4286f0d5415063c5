use Rattle.std.proofs.Common.{◌≡◌, drop}
use Rattle.cs_declarations.specs.Bodies.{plain_words, words_type, specs_type, members_of_list, nothing_laid}
use Rattle.cs_declarations.specs.View.{environment_of, laying}
use Rattle.cs_declarations.proofs.bodies.+specs.Given as goal

abbrev pub invariant-specs_type-loop-word : goal.invariant-specs_type-loop-word
invariant-specs_type-loop-word l = record {
  same : l.known ≡ l.initial.known;
  reported : words_type (environment_of l.initial.known) l.specs.tag l.place (plain_words l.specs.words.items) (drop l.word-index l.word-items)
      ≡ specs_type (environment_of l.initial.known) l.place l.specs;
}

abbrev pub invariant-members_read-loop-group : goal.invariant-members_read-loop-group
invariant-members_read-loop-group l = record {
  reported : members_of_list (environment_of l.initial.known) l.groups nothing_laid
      ≡ members_of_list (environment_of l.known) (drop l.group-index l.groups) (laying l.so_far);
  reading : l.known.reading.items ≡ l.initial.known.reading.items;
}
