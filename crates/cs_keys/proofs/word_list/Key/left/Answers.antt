use Rattle.cs_keys.proofs.Divided.{all_bytes}
use Rattle.cs_keys.proofs.word_list.Key.left.Goals as goal

pub returns : goal.returns
returns c =
    rw (c.as_slice.ensures.value, c.bytes.ensures, ← c.self.view_is) (all_bytes c.self.inside.runs.items c.self.inside.tail)
