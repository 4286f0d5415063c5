use Rattle.std.proofs.Common.{◌≡◌, drop}
use Rattle.cs_declarations.specs.Sizes.{all_said}
use Rattle.cs_declarations.proofs.SaidSoFar.{following}
use Rattle.cs_declarations.proofs.sizes.all_said.Given as goal

abbrev pub invariant-loop-size : goal.invariant-loop-size
invariant-loop-size l = all_said l.place l.sizes ≡ following l.numbers.items (all_said l.place (drop l.size-index l.sizes))
