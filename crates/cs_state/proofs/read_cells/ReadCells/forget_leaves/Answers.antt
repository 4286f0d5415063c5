use Rattle.std.proofs.Common.{ap, cond, sym, ◌∙◌, refl, subst, Bool, true, false, ◌≡◌}
use Rattle.std.specs.Prelude.{None, Option}
use Rattle.std.specs.Option.{unwrap_or}
use Rattle.std.specs.FinMap.{get, empty}
use Rattle.cs_terms.specs.declared.symbol.Sym.{Sym}
use Rattle.cs_state.specs.ReadCells.{AreOffsets, has_leaf, read_at}
use Rattle.cs_state.proofs.PlainCells.{offsets_less, plain_added, plain_of}
use Rattle.cs_state.proofs.Reading.{leaves_forgotten, others_keep, read_missing}
use Rattle.cs_state.proofs.read_cells.ReadCells.forget_leaves.Goals as goal

pub returns-clause-here : goal.returns-clause-here
returns-clause-here c =
    let leaves = c.args.leaves.now in
    let same = c.cells.view_is ∙ ap (λ found. unwrap_or found empty) c.in-Some.ensures in
    rw (c.in_ok-insert.ensures.ok, ← c.self.view_is)
    (leaves_forgotten c.self.inside.bases c.args.base leaves c.in_ok-syms.syms
    (λ o. c.in_ok-syms.ensures.others o ∙ ap (λ m. cond (has_leaf leaves o) None (get m (o, 0))) same))

pub returns-clause-elsewhere : goal.returns-clause-elsewhere
returns-clause-elsewhere c =
    rw (c.in_ok-insert.ensures.ok, ← c.self.view_is)
    (λ b o differ. others_keep c.self.inside.bases c.args.base c.in_ok-syms.syms b o differ)

either_way : (leaf : Bool) (read : Option Sym) → read ≡ None → read ≡ cond leaf None read
either_way true read none = none
either_way false read none = refl

pub returns-in_default-clause-here : goal.returns-in_default-clause-here
returns-in_default-clause-here c = λ o.
    either_way (has_leaf c.args.leaves.now o) (read_at c.args.self.now c.args.base o)
    (rw (← c.self.view_is) (read_missing c.self.inside.bases c.args.base o (sym c.in_default.ensures)))

pub invariant_of-self-2 : goal.invariant_of-self-2
invariant_of-self-2 c =
    let bases = c.self.inside.bases in
    let same = c.cells.view_is ∙ ap (λ found. unwrap_or found empty) c.in-Some.ensures in
    rw (c.in_ok-insert.ensures.ok)
    (plain_added bases c.args.base c.in_ok-syms.syms
    (offsets_less _ c.in_ok-syms.syms c.in_ok-syms.ensures.kept
    (subst AreOffsets (sym same) (plain_of bases c.args.base c.self.invariant))) c.self.invariant)
