use Rattle.std.proofs.Common.{◌∙◌, ap}
use Rattle.std.specs.Int.{w128}
use Rattle.std.specs.List.{concat}
use Rattle.std.proofs.lemmas.Int.{to_z-of_z}
use Rattle.cs_word_lists.specs.Written.{with_integer}
use Rattle.cs_keys.specs.Runs.{all_words}
use Rattle.cs_word_lists.proofs.After.{integer_after}
use Rattle.cs_keys.proofs.word_list.Key.integer.Goals as goal

pub returns : goal.returns
returns c =
    let runs = c.self.inside.runs.items in
    let tail = c.self.inside.tail in
    rw (c.in_ok-integer.ensures, ← c.self.view_is)
    (ap (λ number. all_words runs (with_integer tail number)) (to_z-of_z w128 c.args.number c.ranges.number)
    ∙ integer_after (concat runs) tail c.args.number)
