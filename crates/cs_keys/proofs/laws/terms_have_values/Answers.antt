use Rattle.cs_keys.proofs.Lines.{same_values}
use Rattle.cs_keys.proofs.laws.terms_have_values.Goals as goal

pub returns : goal.returns
returns c = same_values
