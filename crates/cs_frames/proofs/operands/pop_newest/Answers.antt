use Rattle.std.proofs.Common.{◌≡◌, ℕ, ◌-◌, List, map, take, drop, reverse, length, sym, ap, ◌∙◌, arith}
use Rattle.cs_meaning.specs.Machine as machine
use Rattle.cs_meaning.specs.Machine.{with_stack}
use Rattle.cs_values.specs.declared.objects.Operand.{Operand}
use Rattle.cs_values.specs.View.{operand_of}
use Rattle.cs_run_state.specs.MachineView.{state_of}
use Rattle.cs_frames.proofs.Stacks.{older_of}
use Rattle.cs_frames.proofs.operands.pop_newest.Goals as goal

pub returns-clause-state : goal.returns-clause-state
unfolding state_of
returns-clause-state c =
    let stack = c.args.state.now.frame.stack.items in
    let left : c.saturating_sub-left.result ≡ length stack - c.args.count = omega arith in
    let kept : c.split_off.new.self.items ≡ take (length stack - c.args.count) stack = c.in_ok-taken.ensures.items ∙ ap (λ (n : ℕ). take n stack) left in
    let older : reverse (map operand_of c.split_off.new.self.items) ≡ drop c.args.count (reverse (map operand_of stack)) =
    ap (λ (l : List Operand). reverse (map operand_of l)) kept ∙ sym (older_of operand_of stack c.args.count) in
    ap (λ (operands : List machine.Operand). with_stack operands (state_of c.args.state.now)) older
