use Rattle.std.proofs.Common.{arith, ◌∙◌, ◌<◌, length}
use Rattle.std.proofs.lemmas.List.{length-set, length-append}
use Rattle.cs_checker.proofs.Asking.{asked_step, rest_step, asked_all}
use Rattle.cs_checker.proofs.checker.ask_each.Goals as goal

pub loop-checker-preserved : goal.loop-checker-preserved
loop-checker-preserved g c =
    let i = c.loop-checker.invariant in
    let more : c.loop-checker.checker-index < length c.loop-checker.checker-items = omega arith in (
      asked_step _ _ c.args.subject.now c.args.checkers.now.items c.loop-checker.checker-items c.loop-checker.checker-index _ _ c.checker-item.result _
          c.ask-answer.result i.0 i.1 more i.2 c.in-Ok.ensures.items c.ask-answer.ensures,
      rest_step c.args.checkers.now.items c.loop-checker.checker-items c.loop-checker.checker-index c.checker-item.result _ i.1 more i.2,
      length-set _ _ _ ∙ i.2,
      rw c.in-Ok.ensures.items (simp length-append (omega arith)),
      omega (arith, length-set c.loop-checker.checker-items c.loop-checker.checker-index c.ask-answer.new.checker, i.4, c.push.ensures.capacity),
    )

pub returns-clause-kinds : goal.returns-clause-kinds
returns-clause-kinds g c =
    let i = c.loop-checker.invariant in
    asked_all _ _ c.args.subject.now c.args.checkers.now.items c.loop-checker.checker-items c.loop-checker.answers.items c.loop-checker.checker-index _ i.0
    (omega arith) i.2 (omega (arith, c.args.checkers.now.ok.0))
