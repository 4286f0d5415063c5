use Rattle.cs_inputs.proofs.RootTexts.{no_call, no_argument}
use Rattle.cs_inputs.proofs.root_text.call_of.Goals as goal

pub returns-in_err-call : goal.returns-in_err-call
returns-in_err-call c =
    rw c.from_residual.ensures (no_call c.args.numbers.now c.split_before.result.0.now c.split_before.result.1.now c.split_before.ensures c.in_err-call.ensures)

pub returns-in_err-argument_of-in-Some : goal.returns-in_err-argument_of-in-Some
returns-in_err-argument_of-in-Some c =
    rw c.from_residual-in_err-argument_of-in-Some.ensures (no_argument c.args.numbers.now c.split_before.result.0.now c.split_before.result.1.now
    c.in-Some.argument.now c.in-Some.field-0-0.now c.split_before.ensures c.in-Some.ensures.cases.0 c.in_err-argument_of-in-Some.ensures)
