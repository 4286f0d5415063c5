-- Made so far: the lines of the functions below the number.
use Rattle.std.proofs.Common.{◌≡◌}
use Rattle.cs_generate.specs.GeneratedFile.{generated_file}
use Rattle.cs_generate.proofs.file.generate_text.Given as goal

abbrev pub invariant-loop-number : goal.invariant-loop-number
invariant-loop-number l = l.text.items ≡ generated_file l.seed l.number
