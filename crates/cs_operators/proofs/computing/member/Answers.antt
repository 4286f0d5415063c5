use Rattle.std.proofs.Common.{ap, sym, ◌∙◌}
use Rattle.cs_meaning.specs.Initials as cells
use Rattle.cs_cfg.specs.Graph as graph
use Rattle.cs_cfg.specs.Working.{do_work}
use Rattle.cs_state.specs.declared.temporary.Temporary.TheVariants as temporary
use Rattle.cs_progress.proofs.Looks.{leads_same}
use Rattle.cs_progress.proofs.Carrying.{no_wait}
use Rattle.cs_operators.proofs.Computed.{cell_left, replaced, waited}
use Rattle.cs_operators.proofs.computing.member.Goals as goal

pub returns-in_err-place : goal.returns-in_err-place
returns-in_err-place c = record {
  act = λ code names program budgets at progress.
      waited code names program c.args.state.now c.args.state.now progress progress c.from_residual-in_err-place.result
      (do_work code program budgets at (graph.Member c.args.offset)) c.in_err-place.field-0.0 c.from_residual-in_err-place.ensures
      (no_wait c.in_err-place.field-0.0 c.in_err-place.ensures.memory);
}

pub returns : goal.returns
returns c = record {
  act = λ code names program budgets at progress.
      let state = c.args.state.now in
      replaced code names program state c.replace_with.new.state progress progress c.replace_with.result
      (do_work code program budgets at (graph.Member c.args.offset)) 1 (temporary.Scalar c.in_ok-place.place)
      c.replace_with.ensures.means c.replace_with.ensures.memory
      (λ todo given v fits. leads_same given _ _ _
      (ap (cell_left code names program state 1 todo v)
      (ap (λ cell. cells.further cell c.args.offset) (c.in_ok-value.ensures.value code names program v)
      ∙ sym (c.in_ok-place.ensures.moved names.bases v fits))));
}
