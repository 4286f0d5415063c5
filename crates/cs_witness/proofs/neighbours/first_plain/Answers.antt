use Rattle.std.proofs.Common.{◌<◌, ◌≤◌, length, subst, arith}
use Rattle.std.specs.Prelude.{All}
use Rattle.std.proofs.lemmas.List.{take_all}
use Rattle.std.proofs.lemmas.List.Elements.{All-nil, All-more}
use Rattle.cs_witness.specs.Witnesses.{IsElsewhereOf}
use Rattle.cs_witness.proofs.neighbours.first_plain.Goals as goal

pub loop-inputs-init : goal.loop-inputs-init
loop-inputs-init c = All-nil (IsElsewhereOf c.args.entry.now c.args.what)

pub loop-inputs-preserved : goal.loop-inputs-preserved
loop-inputs-preserved c =
    let tries = c.args.tries.now in
    let i = c.loop-inputs.inputs-index in
    let below : i < length tries = omega arith in
    All-more (IsElsewhereOf c.args.entry.now c.args.what) tries i c.inputs-item.result below c.loop-inputs.invariant
    (subst (IsElsewhereOf c.args.entry.now c.args.what) c.inputs-item.is (rw c.in-None.is at c.in_ok-finding.ensures.elsewhere))

pub returns-clause-elsewhere : goal.returns-clause-elsewhere
returns-clause-elsewhere c =
    let tries = c.args.tries.now in
    let none : length tries ≤ c.loop-inputs.inputs-index = omega arith in
    subst (All (IsElsewhereOf c.args.entry.now c.args.what)) (take_all c.loop-inputs.inputs-index tries none) c.loop-inputs.invariant
