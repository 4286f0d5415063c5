use Rattle.std.proofs.Common.{◌≡◌, ◌+◌, false, drop}
use Rattle.std.specs.Prelude.{option_map}
use Rattle.cs_lexer.specs.Quoted.{closing}
use Rattle.cs_lexer.proofs.quoted.closing.Given as goal

abbrev pub invariant-loop-i : goal.invariant-loop-i
invariant-loop-i l = closing l.quote false l.bytes ≡ option_map (λ n. n + l.i) (closing l.quote l.escaped (drop l.i l.bytes))
