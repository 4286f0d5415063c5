-- No end so far has the outcome.
use Rattle.std.proofs.Common.{take}
use Rattle.cs_children.specs.Adding.{HaveOthers}
use Rattle.cs_children.proofs.children.Children.has_end.Given as goal

abbrev pub invariant-loop-found : goal.invariant-loop-found
invariant-loop-found l = HaveOthers l.outcome (take l.found-index l.self.ends.items)
