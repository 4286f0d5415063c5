use Rattle.std.specs.Prelude.{FitsSigned}
use Rattle.std.specs.Int.{w128}
use Rattle.std.proofs.lemmas.Int.{to_z-of_z}
use Rattle.cs_events.specs.Objects.{StartBlock, HeapBlock}
use Rattle.cs_run_state.specs.MachineView.{state_of}
use Rattle.cs_run_state.proofs.machine.Machine.refused_release.Goals as goal

pub returns-in-Start : goal.returns-in-Start
unfolding state_of
returns-in-Start c =
    let fits : FitsSigned w128 c.args.offset = c.ranges.offset in
    let offset = to_z-of_z w128 c.args.offset fits in
    let known = rw c.in-Start.is at c.block.ensures in
    rw c.in-Start.is (λ place. rw offset at (rw known at (c.refused_standing.ensures place (StartBlock c.in-Start.field-0) (state_of c.args.self.now))))

pub returns-in-Heap : goal.returns-in-Heap
unfolding state_of
returns-in-Heap c =
    let fits : FitsSigned w128 c.args.offset = c.ranges.offset in
    let offset = to_z-of_z w128 c.args.offset fits in
    let known = rw c.in-Heap.is at c.block-in-Heap.ensures in
    rw c.in-Heap.is (λ place. rw offset at (rw known at (c.refused_standing-in-Heap.ensures place (HeapBlock c.in-Heap.field-0) (state_of c.args.self.now))))
