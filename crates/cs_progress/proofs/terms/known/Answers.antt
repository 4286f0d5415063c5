use Rattle.std.proofs.Common.{sym, ◌∙◌}
use Rattle.std.proofs.lemmas.Option.{none-some}
use Rattle.cs_progress.proofs.KnownTerms.{same_value}
use Rattle.cs_progress.proofs.terms.known.Goals as goal

pub known_over-requires : goal.known_over-requires
known_over-requires c = λ none. none-some c.in-Some.sym (sym none ∙ c.in-Some.is)

pub returns-clause-value : goal.returns-clause-value
returns-clause-value c =
    same_value c.args.state.now.constraints c.in-Some-range_of.range.now c.args.term c.in_ok-known_over.field-0 c.in-Some.sym c.in-Some.is
    (sym c.in-Some-range_of.ensures.set) c.in_ok-known_over.ensures
