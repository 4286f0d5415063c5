use Rattle.std.specs.Prelude.{pos}
use Rattle.bench_parts.proofs.state.read_by_copy.Goals as goal

pub declare_all-requires : goal.declare_all-requires
declare_all-requires c = (pos 0, c.in_ok-numbers.ensures.numbers (pos 0))
