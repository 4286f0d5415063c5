use Rattle.std.proofs.Common.{◌≡◌, add-one, append_assoc}
use Rattle.cs_ast.specs.TypedProgram.{routine, typed_program}
use Rattle.cs_flow.specs.WholeFlows.{flow_of, first_flows}
use Rattle.cs_flow.proofs.FlowsSoFar.{one_more_flow}
use Rattle.cs_flow.proofs.flow.append_flow.Goals as goal

pub loop-function-preserved : goal.loop-function-preserved
loop-function-preserved c =
    let program = typed_program c.args.program.now in
    let text : c.in_ok-text.text.items ≡ flow_of program.files (routine c.function-item.result) = rw c.deref.ensures.value at c.in_ok-text.ensures in
    let more = one_more_flow (flow_of program.files) c.args.program.now.functions.items c.loop-function.function-index c.function-item.result
    (rw c.deref-function-items.ensures.value at c.loop-function-test.true) (rw c.deref-function-items.ensures.value at c.function-item.is) in
    rw (
      c.in_ok-extend_from_slice.ensures.items,
      c.deref-in-loop-function.ensures.value,
      text,
      c.loop-function.invariant,
      add-one,
      more,
    ) (append_assoc c.args.out.now.items (first_flows program c.loop-function.function-index) (flow_of program.files (routine c.function-item.result)))
