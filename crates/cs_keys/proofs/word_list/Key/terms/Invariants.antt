use Rattle.std.proofs.Common.{◌≡◌, map, drop}
use Rattle.std.specs.Prelude.{fold}
use Rattle.cs_keys.specs.Live.{live_term}
use Rattle.cs_keys.specs.Words.{with_term}
use Rattle.cs_keys.proofs.word_list.Key.terms.Given as goal

abbrev pub invariant-loop-term : goal.invariant-loop-term
invariant-loop-term l =
    fold with_term l.self (map (live_term l.constraints) (drop l.term-index l.terms))
    ≡ fold with_term l.initial.self (map (live_term l.constraints) l.terms)
