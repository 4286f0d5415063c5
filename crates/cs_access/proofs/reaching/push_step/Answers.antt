use Rattle.std.specs.Prelude.{OnOk}
use Rattle.std.specs.Int.{w128}
use Rattle.std.proofs.Common.{subst}
use Rattle.std.proofs.lemmas.Int.{to_z-of_z}
use Rattle.cs_access.specs.Offsets.{IsTried}
use Rattle.cs_access.proofs.reaching.push_step.Goals as goal

pub returns : goal.returns
returns c =
    subst (λ n. OnOk c.push_part.result (IsTried c.args.state.now c.args.term n c.args.steps.now.items c.push_part.new.steps.items))
    (to_z-of_z w128 c.args.offset c.ranges.offset) c.push_part.ensures
