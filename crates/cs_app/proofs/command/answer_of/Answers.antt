use Rattle.std.proofs.Common.{refl, sym, subst}
use Rattle.cs_generate.specs.GeneratedFile.{generated_file}
use Rattle.cs_app.specs.Answers.{IsLeft, file_of}
use Rattle.cs_app.proofs.command.answer_of.Goals as goal

pub returns-in_ok-answer-in-Generate-clause-whole : goal.returns-in_ok-answer-in-Generate-clause-whole
returns-in_ok-answer-in-Generate-clause-whole g c =
    let file = generated_file c.in-Generate.words.seed c.in-Generate.words.size in (
      file,
      subst (λ command. IsLeft (file_of command (g.S.Source.left c.args.source.now)) file) (sym c.in-Generate.is) refl,
      c.in_ok-answer-in-Generate.ensures.answer,
    )
