use Rattle.std.proofs.Common.{◌∙◌, ap}
use Rattle.cs_state.proofs.Inhabited.{zero_held, ends_inside}
use Rattle.cs_state.proofs.state.State.receive_number.Goals as goal

pub numbers_in-requires-clause-low : goal.numbers_in-requires-clause-low
numbers_in-requires-clause-low c = rw c.numbers_of-range.ensures ((ends_inside c.args.model c.args.ty).0)

pub numbers_in-requires-clause-high : goal.numbers_in-requires-clause-high
numbers_in-requires-clause-high c = rw c.numbers_of-range.ensures ((ends_inside c.args.model c.args.ty).1)

pub numbers_in-requires-clause-has_zero : goal.numbers_in-requires-clause-has_zero
numbers_in-requires-clause-has_zero c = rw c.numbers_of-range.ensures (zero_held c.args.model c.args.ty)
