use Rattle.std.proofs.Common.{◌≡◌, IfOk, sym, subst}
use Rattle.cs_inputs.specs.Inputs.{IsInOrder}
use Rattle.cs_witness.proofs.copies.copy_inputs.Goals as goal

pub copy_entries-requires : goal.copy_entries-requires
copy_entries-requires c = subst IsInOrder (sym c.list.ensures.value) c.list.ensures.in_order

pub returns : goal.returns
returns c = subst (λ l. IfOk c.copy_entries.result (λ made. made ≡ l)) c.list.ensures.value c.copy_entries.ensures
