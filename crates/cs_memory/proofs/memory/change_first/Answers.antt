use Rattle.std.proofs.Common.{◌≡◌, Some, sym, ap, ◌∙◌}
use Rattle.std.specs.Prelude.{slice_get, option_copied}
use Rattle.cs_objects.specs.BlockView.{change_of}
use Rattle.cs_memory.proofs.FirstChanges.{lent, first_changed}
use Rattle.cs_memory.proofs.memory.change_first.Goals as goal

pub returns-in-Ok : goal.returns-in-Ok
returns-in-Ok c =
    let there : slice_get c.args.row.now c.args.number ≡ Some c.in-Some.block.now =
    sym (lent c.args.row.now c.args.number c.get.result c.get.ensures.lookup) ∙ ap option_copied c.in-Some.is in
    first_changed c.args.changed.now c.insert.new.self c.args.row.now c.args.number c.in-Some.block.now c.in_ok-block.block c.change.new.self
    (change_of c.args.change) c.requires there c.in_ok-block.ensures c.in_ok-change.ensures c.in-Ok.ensures.updates
