use Rattle.cs_pmap.specs.Many.{insert_all}
use Rattle.cs_state.specs.ReadCells.{cells_of, keyed}
use Rattle.cs_state.proofs.PlainCells.{offsets_all_added, plain_added, plain_of}
use Rattle.cs_state.proofs.Reading.{all_added_here, others_keep}
use Rattle.cs_state.proofs.read_cells.ReadCells.add_all.Goals as goal

pub returns-clause-here : goal.returns-clause-here
returns-clause-here c =
    rw (
      c.in_ok-insert.ensures.ok,
      c.in_ok-insert_all.ensures.ok,
      c.syms.view_is,
      c.in_ok-syms.ensures,
      c.deref.ensures.value,
      c.in_ok-entries.ensures,
      ← c.self.view_is,
    )
    (λ o. all_added_here c.self.inside.bases c.args.base c.args.read.now o)

pub returns-clause-elsewhere : goal.returns-clause-elsewhere
returns-clause-elsewhere c =
    rw (c.in_ok-insert.ensures.ok, ← c.self.view_is)
    (λ b o differ. others_keep c.self.inside.bases c.args.base c.insert_all.new.self b o differ)

pub invariant_of-self-2 : goal.invariant_of-self-2
invariant_of-self-2 c =
    let bases = c.self.inside.bases in
    let cells = cells_of bases c.args.base in
    rw (
      c.in_ok-insert.ensures.ok,
      c.in_ok-insert_all.ensures.ok,
      c.syms.view_is,
      c.in_ok-syms.ensures,
      c.deref.ensures.value,
      c.in_ok-entries.ensures,
      ← c.self.view_is,
    )
    (plain_added bases c.args.base (insert_all cells (keyed c.args.read.now))
    (offsets_all_added c.args.read.now cells (plain_of bases c.args.base c.self.invariant)) c.self.invariant)
