use Rattle.std.proofs.Common.{sym, append_assoc}
use Rattle.std.specs.List.{concat}
use Rattle.cs_keys.proofs.word_list.Key.append.Goals as goal

pub returns : goal.returns
returns c =
    rw (c.in_ok-append.ensures, ← c.self.view_is)
    (sym (append_assoc (concat c.self.inside.runs.items) c.self.inside.tail c.args.words.now))
