use Rattle.std.proofs.Common.{◌≡◌, ◌≤◌, ◌+◌, arith, refl, sym, ◌∙◌}
use Rattle.std.proofs.lemmas.Bool.Decides.{nat_tests}
use Rattle.cs_cfg.specs.Spots.{block_count}
use Rattle.cs_cfg.specs.GraphView.{code}
use Rattle.cs_cfg.proofs.Endless.{none, more, jumps_by, jumps_for_ever}
use Rattle.cs_cfg.proofs.code.Code.settled.Goals as goal

pub loop-init : goal.loop-init
loop-init c = none

pub loop-preserved : goal.loop-preserved
loop-preserved c = more c.loop.invariant (sym c.jump.ensures.jumps ∙ c.in-Some.is) refl

pub returns-in-None : goal.returns-in-None
returns-in-None c = record { settled = (jumps_by (code c.args.self.now) c.loop.invariant, sym c.jump.ensures.jumps ∙ c.in-None.is) }

pub returns : goal.returns
returns c =
    let graphs = code c.args.self.now in
    let past : c.loop.counter ≡ c.rounds-end.result = grind (arith, nat_tests) in
    let many : block_count graphs c.args.spot.function + 2 ≤ c.loop.counter = omega arith in
    record { settled = jumps_for_ever graphs c.args.spot.function c.loop.counter c.loop.invariant refl many }
