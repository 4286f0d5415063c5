use Rattle.std.proofs.Common.{true, false, sym, ◌∙◌}
use Rattle.std.proofs.lemmas.Bool.{false≢true}
use Rattle.cs_declarator_parser.proofs.specs.begins_tagged.Goals as goal

pub returns-then-is_keyword-clause-tag : goal.returns-then-is_keyword-clause-tag
returns-then-is_keyword-clause-tag c = λ is. (true, c.is_keyword.ensures.keyword.0 c.if-is_keyword.true)

pub returns-clause-tag : goal.returns-clause-tag
returns-clause-tag c = λ is. (false, c.is_keyword-2.ensures.keyword.0 is)

pub returns-clause-none : goal.returns-clause-none
returns-clause-none c = λ none. record {
  no_struct = λ k. false≢true (sym c.if-is_keyword.false ∙ c.is_keyword.ensures.keyword.1 k);
  no_enum = λ k. false≢true (sym none ∙ c.is_keyword-2.ensures.keyword.1 k);
}
