use Rattle.std.proofs.Common.{sym, ◌∙◌}
use Rattle.std.specs.FinMap.{get-empty}
use Rattle.std.proofs.lemmas.Option.{none-some}
use Rattle.cs_pmap.specs.Keys.{key_cmp}
use Rattle.cs_constraints.proofs.constraints.Constraints.new.Goals as goal

pub invariant_of-result : goal.invariant_of-result
invariant_of-result c = λ s set e. absurd (none-some set (sym (get-empty key_cmp (s, 0)) ∙ (rw c.new.ensures at e)))

pub returns : goal.returns
returns c = λ s. rw c.new.ensures (get-empty key_cmp (s, 0))
