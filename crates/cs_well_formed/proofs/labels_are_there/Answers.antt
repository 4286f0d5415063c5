use Rattle.cs_well_formed.proofs.Labels.{labels_are_there}
use Rattle.cs_well_formed.proofs.labels_are_there.Goals as goal

pub returns : goal.returns
returns c = labels_are_there
