use Rattle.std.proofs.Common.{◌≡◌, take}
use Rattle.cs_typing.proofs.program.copied.Given as goal

abbrev pub invariant-loop-name : goal.invariant-loop-name
invariant-loop-name l = l.made.items ≡ take l.name-index l.names
