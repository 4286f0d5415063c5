use Rattle.std.proofs.Common.{refl, sym, arith}
use Rattle.std.proofs.lemmas.List.{take_rest}
use Rattle.cs_pmap.proofs.PutAll.{search_up, search_down, search_found}
use Rattle.cs_pmap.proofs.merge.split_around.Goals as goal

pub loop-low-preserved-in-Less : goal.loop-low-preserved-in-Less
loop-low-preserved-in-Less g c =
    search_up c.args.entries.now c.args.key c.loop-low.low c.loop-low.high _ c.index-entries-middle.result c.loop-low.invariant
    (omega (arith, c.loop-low-test.true)) c.requires.ascending c.index-entries-middle.is (sym c.in-Less.ensures)

pub loop-low-preserved : goal.loop-low-preserved
loop-low-preserved g c =
    search_down c.args.entries.now c.args.key c.loop-low.low c.loop-low.high _ c.index-entries-middle.result c.loop-low.invariant
    (omega arith) (omega (arith, c.loop-low-test.true)) c.requires.ascending c.index-entries-middle.is (sym c.in-Greater.ensures)

pub returns-in-Equal : goal.returns-in-Equal
returns-in-Equal g c =
    search_found c.args.entries.now c.args.key c.args.kept.now _ c.index-entries-middle.result _
    (omega (arith, c.loop-low-test.true, c.loop-low.invariant.inside)) c.requires.ascending c.index-entries-middle.is (sym c.in-Equal.ensures) refl refl
    (take_rest c.args.entries.now _)
