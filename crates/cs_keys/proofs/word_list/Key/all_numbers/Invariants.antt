use Rattle.std.proofs.Common.{◌≡◌, map, drop}
use Rattle.std.specs.Prelude.{fold}
use Rattle.cs_constraints.specs.Constraints.{set_of}
use Rattle.cs_keys.specs.Words.{with_set}
use Rattle.cs_keys.proofs.word_list.Key.all_numbers.Given as goal

abbrev pub invariant-loop-sym : goal.invariant-loop-sym
invariant-loop-sym l =
    fold with_set l.self (map (λ sym. set_of l.constraints sym.0) (drop l.sym-index l.symbols))
    ≡ fold with_set l.initial.self (map (λ sym. set_of l.constraints sym.0) l.symbols)
