use Rattle.std.proofs.Common.{rules}
use Rattle.cs_objects.specs.BlockView.{change_of}
use Rattle.cs_memory.proofs.Rows.{row_changed, row_stays}
use Rattle.cs_memory.proofs.memory.change_at.Goals as goal

pub returns-in_ok-change : goal.returns-in_ok-change
returns-in_ok-change c =
    row_changed c.args.row.now.items c.args.at c.index_mut.result.now c.change.new.self (change_of c.args.change) (search rules) (search rules)
    c.in_ok-change.ensures

pub returns-else-at-len : goal.returns-else-at-len
returns-else-at-len c = row_stays c.args.row.now.items c.args.at (change_of c.args.change) (search rules)
