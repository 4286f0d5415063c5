use Rattle.std.proofs.Common.{ap, ◌∙◌}
use Rattle.cs_types.specs.Shape.{shape_of}
use Rattle.cs_meaning.specs.Initials as cells
use Rattle.cs_store.specs.declared.value.Value.TheVariants.{Number}
use Rattle.cs_state.specs.declared.temporary.Temporary.TheVariants.{Scalar}
use Rattle.cs_steps.proofs.Fetching.{conversion_waits, fetched, both_keep}
use Rattle.cs_steps.proofs.updates.push_converted.Goals as goal

pub returns-in_err-after-clause-act : goal.returns-in_err-after-clause-act
returns-in_err-after-clause-act c = λ code names program.
    let state = c.args.state.now in
    conversion_waits code names program state c.args.model c.args.at (shape_of c.args.types.0.now) c.args.types.1 c.args.loaded c.in_ok-before.before
    (λ v fits. ap cells.number_in (c.value_of.ensures.scalar names.bases state.blocks v) ∙ c.in_ok-before.ensures.value names.bases v fits)
    _ _ _ c.from_residual-in_err-after.result c.in_err-after.field-0.0 c.from_residual-in_err-after.ensures
    (c.in_err-after.ensures.act names.bases).waits

pub returns-clause-act : goal.returns-clause-act
returns-clause-act c = λ code names program.
    let state = c.args.state.now in
    fetched code names program state c.args.model c.args.at (shape_of c.args.types.0.now) c.args.types.1 c.args.loaded c.in_ok-before.before
    (λ v fits. ap cells.number_in (c.value_of.ensures.scalar names.bases state.blocks v) ∙ c.in_ok-before.ensures.value names.bases v fits)
    _ _ _ c.push_both.result c.in_ok-after.after (c.in_ok-after.ensures.act names.bases).through c.push_both.ensures.means c.push_both.ensures.memory

pub returns-clause-locals : goal.returns-clause-locals
returns-clause-locals c =
    both_keep c.args.state.now c.push_both.new.state c.push_both.result c.args.loaded (Scalar (Number c.in_ok-after.after)) c.push_both.ensures.pushed
    (λ given. c.in_ok-after.ensures.over (c.in_ok-before.ensures.over
    (λ program bases known have. c.value_of.ensures.within bases known _ _ (given program bases known have))))
