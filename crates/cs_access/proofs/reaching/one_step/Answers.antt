use Rattle.std.proofs.Common.{◌≡◌, [], ◌∷◌, to_z, of_z, subst, rules}
use Rattle.std.specs.Int.{w128}
use Rattle.cs_access.specs.Offsets.{AreTried}
use Rattle.cs_access.proofs.Stepping.{tried_more}
use Rattle.cs_access.proofs.reaching.one_step.Goals as goal

pub returns : goal.returns
returns c =
    let value : to_z w128 (of_z w128 c.args.offset.value) ≡ c.args.offset.value = search rules in
    subst (λ n. AreTried c.args.state.now c.args.offset (n ∷ []) c.push_step.new.steps.items) value
    (tried_more c.args.state.now c.args.offset [] c.new-steps.result.items c.push_step.new.steps.items
    (to_z w128 (of_z w128 c.args.offset.value)) c.new-steps.ensures.items c.in_ok-push_step.ensures)
