-- So many jumps lead to the current spot.
use Rattle.cs_cfg.specs.GraphView.{code}
use Rattle.cs_cfg.proofs.Endless.{Hops}
use Rattle.cs_cfg.proofs.code.Code.settled.Given as goal

abbrev pub invariant-loop : goal.invariant-loop
invariant-loop l = Hops (code l.self) l.fn.spot l.here l.counter
