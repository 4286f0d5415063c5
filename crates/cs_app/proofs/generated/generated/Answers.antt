use Rattle.std.proofs.Common.{sym, ◌∙◌, subst}
use Rattle.cs_generate.specs.GeneratedFile.{generated_file}
use Rattle.cs_words.specs.declared.command.Command.{Command}
use Rattle.cs_app.specs.Answers.{SuitsFile}
use Rattle.cs_app.proofs.generated.generated.Goals as goal

pub answer_to-requires : goal.answer_to-requires
answer_to-requires g c =
    subst (λ (command : Command). SuitsFile command c.deref.result.now) (sym c.requires)
    (c.deref.ensures.value ∙ c.in_ok-file.ensures ∙ (λ i. generated_file (c.from.ensures i) (c.from-2.ensures i)))
