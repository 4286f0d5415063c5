-- The labels of the statements before the index were added.
use Rattle.std.proofs.Common.{◌≡◌, ℕ, drop}
use Rattle.cs_ast.specs.TypedView.{statement_list}
use Rattle.cs_cfg.specs.ControlPoints.{at_label}
use Rattle.cs_flow.specs.LabelView.{labels_of, label_in_list}
use Rattle.cs_flow.proofs.labels.Labels.+labels.Given as goal

abbrev pub invariant-find_in-loop-s : goal.invariant-find_in-loop-s
invariant-find_in-loop-s l =
    (label : ℕ) → at_label (labels_of l.self label) (label_in_list label (statement_list (drop l.s-index l.list)))
    ≡ at_label (labels_of l.initial.self label) (label_in_list label (statement_list l.list))
