-- Targets of jumps.
use Rattle.cs_cfg.specs.ControlPoints as cfg
use Rattle.cs_flow.specs.declared.targets.Targets.{Targets}
use Rattle.cs_flow.specs.LabelView.{labels_of}
use Rattle.cs_flow.specs.PointView.{next_of}

abbrev pub targets_of : Targets → cfg.Targets
targets_of to = record { out = next_of to.out; again = next_of to.again; labels = labels_of to.labels.now }
