use Rattle.cs_cfg.specs.GraphView as view
use Rattle.cs_spots.proofs.KeptStates.{locals_cut}
use Rattle.cs_spots.proofs.Stepped.{works_step}
use Rattle.cs_steps.proofs.next.reach.Goals as goal

pub returns : goal.returns
returns c = record {
  steps = λ given stands names program known model extends numbered have integer fresh.
      let code = view.code c.args.context.now.code.now in
      let kept = c.cut.new.self in
      let have_kept = locals_cut program names.bases known 0 c.args.state.now kept c.cut.ensures have in
      works_step code names program c.args.context.now.setting.now.budgets known c.args.state.now (view.reaching c.args.point) kept c.cut.ensures stands
      c.reach_counted_point.new.state c.args.progress.now c.reach_counted_point.new.progress fresh c.reach_counted_point.result have_kept
      (c.reach_counted_point.ensures.work given names program known model extends numbered have_kept tt);
}
