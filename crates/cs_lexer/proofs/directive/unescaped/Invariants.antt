use Rattle.std.proofs.Common.{◌≡◌, ◌++◌, false, drop}
use Rattle.cs_lexer.specs.Directives.{unescaped}
use Rattle.cs_lexer.proofs.directive.unescaped.Given as goal

abbrev pub invariant-loop-byte : goal.invariant-loop-byte
invariant-loop-byte l = unescaped false l.bytes ≡ l.made.items ++ unescaped l.escaped (drop l.byte-index l.bytes)
