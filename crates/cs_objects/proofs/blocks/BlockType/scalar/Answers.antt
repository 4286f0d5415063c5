use Rattle.std.proofs.Common.{sym, ◌∙◌}
use Rattle.cs_values.proofs.Layouts.{char_at}
use Rattle.cs_objects.proofs.blocks.BlockType.scalar.Goals as goal

pub returns-in-Text : goal.returns-in-Text
returns-in-Text c =
    rw c.in-Text.is (c.character.ensures ∙ sym (char_at c.args.program.now.model c.args.program.now.table.list c.in-Text.count c.args.offset))
