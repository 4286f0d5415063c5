use Rattle.std.proofs.Common.{◌≡◌, ◌+◌, ◌≤◌, ◌++◌, length, vec_len}
use Rattle.std.specs.Vec.{vec_capacity}
use Rattle.cs_word_lists.specs.Bytes.{bytes_of_word}
use Rattle.cs_word_lists.proofs.bytes.append_digits.Given as goal

abbrev pub decreases-loop-rest : goal.decreases-loop-rest
decreases-loop-rest l = l.rest

abbrev pub invariant-loop-rest : goal.invariant-loop-rest
invariant-loop-rest l = record {
  written : l.bytes.items ++ bytes_of_word l.rest ≡ l.fn.bytes.items ++ bytes_of_word l.word;
  room : vec_len l.bytes + length (bytes_of_word l.rest) ≤ vec_capacity l.bytes;
}
