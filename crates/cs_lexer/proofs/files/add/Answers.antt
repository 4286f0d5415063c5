use Rattle.std.proofs.Common.{◌∷◌, [], ◌++◌, length, ap, ◌∙◌}
use Rattle.cs_lexer.proofs.FilePlaces.{still_numbered}
use Rattle.cs_lexer.proofs.files.add.Goals as goal

pub returns-clause-numbered : goal.returns-clause-numbered
returns-clause-numbered c =
    still_numbered c.args.numbers.now c.enter.new.numbers c.args.names.now.items c.push.new.self.items c.args.name (length c.as_slice.result.now)
    c.requires.numbered c.requires.new (ap length c.as_slice.ensures.value) (c.in_ok-push.ensures.items
    ∙ ap (λ n. c.args.names.now.items ++ n ∷ []) c.in_ok-copy.ensures) c.in_default.ensures.entered
