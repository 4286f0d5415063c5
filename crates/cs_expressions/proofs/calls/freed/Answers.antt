use Rattle.std.proofs.Common.{◌≢◌, length, vec_len, arith}
use Rattle.cs_expressions.proofs.ArgumentConversions.{freed-many, not_none}
use Rattle.cs_expressions.proofs.calls.freed.Goals as goal

pub returns-then-not-is_empty : goal.returns-then-not-is_empty
returns-then-not-is_empty c =
    let some : length c.pop.new.self.items ≢ 0 = λ e.
    not_none (vec_len c.pop.new.self) c.is_empty.result c.is_empty.ensures c.if-not-is_empty.true (omega (arith, e, c.pop.new.self.ok.0)) in
    freed-many c.args.place c.args.arguments.items c.pop.new.self.items c.in-Some.block c.in-Some.ensures.items some
