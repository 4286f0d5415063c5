use Rattle.std.proofs.Common.{sym, ap, subst}
use Rattle.cs_cfg.specs.declared.code.Spot.{Spot}
use Rattle.cs_cfg.specs.GraphView as view
use Rattle.cs_cfg.specs.Spots.{point_of, after}
use Rattle.cs_state.specs.declared.state.State.{State}
use Rattle.cs_cfg.specs.IntegerCode.{IsIntegerWork, count_of_locals}
use Rattle.cs_spots.proofs.Going.{integer_at}
use Rattle.cs_spots.proofs.KeptStates.{locals_cut}
use Rattle.cs_spots.proofs.Stepped.{works_step}
use Rattle.cs_steps.proofs.next.do_operation.Goals as goal

pub returns-clause-steps : goal.returns-clause-steps
returns-clause-steps g c = λ every stands names program known model extends numbered have integer fresh.
    let code = view.code c.args.context.now.code.now in
    let state = c.args.state.now in
    let kept = c.keep.new.state in
    let is = c.in_ok-keep.ensures.cut in
    let operation = view.operation c.args.operation.now in
    let have_kept = locals_cut program names.bases known _ state kept is have in
    let works = integer_at code program state.frame.spot operation (point_of code (after state.frame.spot)) integer stands in
    let kept_works = subst (λ (s : Spot). IsIntegerWork (count_of_locals program s.function) operation.work)
    (sym (ap (λ (s : State). s.frame.spot) is)) works in
    works_step code names program c.args.context.now.setting.now.budgets known state operation kept is stands
    c.work.new.state c.args.attempt.now.progress c.work.new.attempt.progress fresh c.work.result have_kept
    (c.work.ensures.work every names program known model extends numbered have_kept kept_works)
