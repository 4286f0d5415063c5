use Rattle.std.proofs.Common.{sym, ◌∙◌}
use Rattle.std.proofs.lemmas.Bool.{false≢true}
use Rattle.cs_grammar.specs.FilePhrases.{IsFree}
use Rattle.cs_declarator_parser.proofs.ParameterSites.{name_spelled, name_refused}
use Rattle.cs_declarator_parser.proofs.parameters.parameter_name.Goals as goal

pub returns-then-is_punctuator-clause-name : goal.returns-then-is_punctuator-clause-name
returns-then-is_punctuator-clause-name c =
    name_refused c.args.source.now.names.now c.args.source.now.tokens.now c.args.at (c.is_punctuator.ensures.punctuator.0 c.if-is_punctuator.true)
    c.refuse_but.result c.refuse_but.ensures.plain

pub returns-clause-name : goal.returns-clause-name
returns-clause-name c = (
  c.in_ok-name.ensures.name,
  (λ k. false≢true (sym c.if-is_punctuator.false ∙ c.is_punctuator.ensures.punctuator.1 k)),
  name_spelled (IsFree c.args.source.now.names.now) c.args.source.now.tokens.now c.args.at c.after_name-next.result c.in_ok-name.name c.requires.within
      c.in_ok-name.ensures.name c.after_name-next.ensures,
)
