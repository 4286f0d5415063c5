-- Words that are kept in runs, and the bytes of them that remain to be compared.
use Rattle.std.specs.Prelude.{ℕ, List, ◌++◌}
use Rattle.std.specs.List.{concat, flat_map}
use Rattle.cs_word_lists.specs.Bytes.{bytes_of}
use Rattle.cs_keys.specs.declared.compared.Left.{Left}

-- the words of runs, followed by those of the tail
abbrev pub all_words : List (List ℕ) → List ℕ → List ℕ
all_words runs tail = concat runs ++ tail

-- the bytes that remain
abbrev pub bytes_left : Left → List ℕ
bytes_left left = left.run.now ++ (flat_map bytes_of left.later.now ++ left.last.now)
