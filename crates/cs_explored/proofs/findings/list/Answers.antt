use Rattle.std.proofs.Common.{ap, ◌∙◌}
use Rattle.std.specs.Box.{with_value}
use Rattle.cs_state.specs.declared.state.State.{State}
use Rattle.cs_explored.proofs.findings.list.Goals as goal

pub returns : goal.returns
returns c =
    ap (λ (state : State). record c.args.row.now { state = with_value c.args.row.now.state state }) (c.list_regions.ensures ∙ c.deref_mut.ensures.value)
