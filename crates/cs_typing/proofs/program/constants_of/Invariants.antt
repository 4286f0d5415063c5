use Rattle.std.proofs.Common.{◌≡◌, drop, []}
use Rattle.std.specs.Ordering.{int_eq}
use Rattle.indexmap.specs.IndexSet.{insert_all}
use Rattle.cs_typing.specs.Programs.{numbers_in}
use Rattle.cs_typing.proofs.program.constants_of.Given as goal

abbrev pub invariant-loop-token : goal.invariant-loop-token
invariant-loop-token l = insert_all int_eq l.numbers.keys (numbers_in (drop l.token-index l.tokens)) ≡ insert_all int_eq [] (numbers_in l.tokens)
