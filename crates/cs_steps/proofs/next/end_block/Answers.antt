use Rattle.std.proofs.Common.{sym, ap, subst}
use Rattle.cs_cfg.specs.declared.code.Spot.{Spot}
use Rattle.cs_cfg.specs.GraphView as view
use Rattle.cs_state.specs.declared.state.State.{State}
use Rattle.cs_spots.specs.AtSpots.{EndsAt}
use Rattle.cs_spots.proofs.CutMeanings.{cut_shared, cut_for}
use Rattle.cs_spots.proofs.KeptStates.{locals_cut_for}
use Rattle.cs_spots.proofs.Stepped.{ends_step}
use Rattle.cs_steps.proofs.next.end_block.Goals as goal

pub returns-clause-steps : goal.returns-clause-steps
returns-clause-steps c = λ stands names program known model extends numbered have integer fresh.
    let code = view.code c.args.context.now.code.now in
    let state = c.args.state.now in
    let kept = c.keep_for_end.new.state in
    let is = c.in_ok-keep_for_end.ensures.cut in
    let end = view.block_end c.args.block_end.now in
    let have_kept = locals_cut_for program names.bases known end state kept is have in
    let shared = cut_shared end state kept is in
    let kept_stands = subst (λ (s : Spot). EndsAt code end s) (sym (ap (λ (s : State). s.frame.spot) shared.1)) stands in
    ends_step code names program c.args.context.now.setting.now.budgets known state end kept is stands c.end.new.state
    c.args.progress.now c.end.new.progress fresh c.end.result
    (c.end.ensures.leaves kept_stands (cut_for end state kept is) names program known extends have_kept)
