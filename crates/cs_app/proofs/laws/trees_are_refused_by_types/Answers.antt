use Rattle.cs_app.proofs.AcceptedLemmas.{trees_are_refused_by_types}
use Rattle.cs_app.proofs.laws.trees_are_refused_by_types.Goals as goal

pub returns : goal.returns
returns c = trees_are_refused_by_types
