use Rattle.std.proofs.Common.{subst}
use Rattle.cs_state.specs.declared.state.State.{State}
use Rattle.cs_state.specs.ReadCells.{HasPlainCells}
use Rattle.cs_store.specs.Held.{HasPlainKeys}
use Rattle.cs_explored.proofs.findings.is_plain.Goals as goal

pub returns : goal.returns
returns c = record {
  store = subst (λ (state : State). HasPlainKeys state.store) c.deref.ensures c.has_plain_keys.ensures;
  read = subst (λ (state : State). HasPlainCells state.read) c.deref-2.ensures c.has_plain_cells.ensures;
}
