use Rattle.std.proofs.Common.{◌≡◌, ◌+◌, ◌∷◌, map, drop, get_or, sym, ap, ◌∙◌, inl, inr, rules}
use Rattle.std.proofs.lemmas.List.{drop_all}
use Rattle.cs_values.specs.View.{cell_of, object_of}
use Rattle.cs_memory.specs.MemoryView.{memory_of}
use Rattle.cs_memory.proofs.Changes.{one_more_written, none_written}
use Rattle.cs_memory.proofs.Reading.{drop-step}
use Rattle.cs_memory.proofs.memory.Memory.write_cells.Goals as goal

pub loop-index-preserved : goal.loop-index-preserved
loop-index-preserved c =
    let offsets = c.args.offsets.now in
    let cells = c.args.cells.now in
    let i = c.loop-index.index in
    let held = c.index-cells-index.result in
    let place : c.in_ok-at.at ≡ c.args.from + get_or offsets i 0 = search rules in
    let others = map cell_of (drop (i + 1) cells) in
    let split = ap (map cell_of) (drop-step cells i held c.if-index-cells.true)
    ∙ (ap (λ x. cell_of x ∷ others) (sym c.index-cells-index.is) ∙ ap (λ x. x ∷ others) (sym c.in_ok-cell.ensures)) in
    let before = c.loop-index.invariant.counts in
    let now = c.in_ok-change.ensures.counts in
    record {
      writes = one_more_written c.args.from (object_of c.args.object.now) (memory_of c.loop-index.self) (memory_of c.change.new.self) (drop i offsets)
          (drop (i + 1) offsets) (map cell_of (drop i cells)) others (get_or offsets i 0) (cell_of c.in_ok-cell.cell)
          (drop-step offsets i 0 c.loop-index-test.true) split (rw place at c.in_ok-change.ensures.memory) ∙ c.loop-index.invariant.writes;
      counts = record { frames = now.frames ∙ before.frames; allocations = now.allocations ∙ before.allocations };
    }

pub returns-else-index-cells-clause-memory : goal.returns-else-index-cells-clause-memory
returns-else-index-cells-clause-memory c =
    sym (none_written c.args.from (object_of c.args.object.now) (memory_of c.loop-index.self) (drop c.loop-index.index c.args.offsets.now)
    (map cell_of (drop c.loop-index.index c.args.cells.now)) (inr (ap (map cell_of) (drop_all c.loop-index.index c.args.cells.now c.if-index-cells.false))))
    ∙ c.loop-index.invariant.writes

pub returns-after-loop-index-clause-memory : goal.returns-after-loop-index-clause-memory
returns-after-loop-index-clause-memory c =
    sym (none_written c.args.from (object_of c.args.object.now) (memory_of c.loop-index.self) (drop c.loop-index.index c.args.offsets.now)
    (map cell_of (drop c.loop-index.index c.args.cells.now)) (inl (drop_all c.loop-index.index c.args.offsets.now c.loop-index-test.false)))
    ∙ c.loop-index.invariant.writes
