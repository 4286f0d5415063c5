use Rattle.std.proofs.Common.{◌≡◌, take}
use Rattle.std.specs.List.{concat}
use Rattle.cs_word_lists.specs.Digest.{digest_of}
use Rattle.cs_keys.proofs.word_list.digest_of_runs.Given as goal

abbrev pub invariant-loop-run : goal.invariant-loop-run
invariant-loop-run l = l.digest ≡ digest_of (concat (take l.run-index l.runs))
