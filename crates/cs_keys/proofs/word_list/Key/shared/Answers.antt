use Rattle.cs_keys.proofs.Divided.{shared_after}
use Rattle.cs_keys.proofs.word_list.Key.shared.Goals as goal

pub returns : goal.returns
returns c =
    rw (
      c.in_ok-push-2.ensures.items,
      c.in_ok-clone.ensures.cases,
      c.in_ok-push.ensures.items,
      c.in_ok-new.ensures,
      c.replace-before.ensures.value,
      c.replace-before.ensures.after,
      c.new.ensures,
      ← c.self.view_is,
    )
    (shared_after c.self.inside.runs.items c.self.inside.tail c.args.words.now)
