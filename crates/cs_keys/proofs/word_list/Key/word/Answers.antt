use Rattle.std.specs.List.{concat}
use Rattle.cs_word_lists.proofs.After.{word_after}
use Rattle.cs_keys.proofs.word_list.Key.word.Goals as goal

pub returns-clause-ok : goal.returns-clause-ok
returns-clause-ok c =
    rw (c.in_ok-word.ensures.ok, ← c.self.view_is) (word_after (concat c.self.inside.runs.items) c.self.inside.tail c.args.word)
