use Rattle.std.proofs.Common.{sym, ap, ◌∙◌, arith}
use Rattle.std.specs.Prelude.{unwrap_or}
use Rattle.std.specs.Option.{option_or}
use Rattle.std.specs.Map.{lookup}
use Rattle.std.specs.BTreeMap.{is_at}
use Rattle.std.specs.Ordering.{nat_cmp}
use Rattle.cs_ast.specs.TypedTree.{Block, Empty}
use Rattle.cs_ast.specs.TypedProgram.{routine}
use Rattle.cs_ast.specs.TypedView.{statement}
use Rattle.cs_cfg.specs.GraphView as view
use Rattle.cs_lower.specs.Labels.{label_in}
use Rattle.cs_lower.proofs.WholeBodies.{whole_body, whole_integers}
use Rattle.cs_lower.proofs.functions.lower_body.Goals as goal

pub lower_whole-requires : goal.lower_whole-requires
lower_whole-requires c = record {
  laid_out = c.requires.laid_out;
  labels = λ label.
      let body = statement c.args.body.now in
      let none = ap (λ es. lookup (is_at (nat_cmp label)) es) c.new-labels.ensures.empty in
      c.in_ok-counted_points.ensures.labels label
      ∙ (ap (λ found. option_or found (label_in label body 0)) none
      ∙ ap (λ b. label_in label (unwrap_or b (Block (routine c.args.function.now).at Empty)) 0) (sym c.requires.own));
}

pub returns-clause-graph : goal.returns-clause-graph
returns-clause-graph c =
    whole_body c.in_ok-entry.ensures c.new-graph.ensures (omega (arith, c.in_ok-counted_points.ensures.next)) c.in_ok-flow.ensures.whole
    c.in_ok-flow.ensures.no_other c.in_ok-flow.ensures.entry c.in_ok-flow.ensures.counted_points c.requires.own

pub returns-clause-integers : goal.returns-clause-integers
returns-clause-integers c = whole_integers (view.flow c.in_ok-flow.flow) c.in_ok-entry.ensures c.new-graph.ensures c.in_ok-flow.ensures.no_other
