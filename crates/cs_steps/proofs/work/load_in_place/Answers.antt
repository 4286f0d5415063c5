use Rattle.std.proofs.Common.{ap}
use Rattle.cs_terms.specs.Term.{Valuation}
use Rattle.cs_events.specs.Acts.{Act, Goes}
use Rattle.cs_meaning.specs.Access.{load_object}
use Rattle.cs_meaning.specs.Machine.{Operand, push, pop, with_memory}
use Rattle.cs_meaning.specs.Memory.{Memory}
use Rattle.cs_cfg.specs.Graph as graph
use Rattle.cs_cfg.specs.Graph.{Point}
use Rattle.cs_cfg.specs.GraphView as view
use Rattle.cs_cfg.specs.Working.{CodeState, do_work}
use Rattle.cs_progress.proofs.Carrying.{no_wait}
use Rattle.cs_operators.proofs.Computed.{stands, part_leads, part_waits}
use Rattle.cs_cells.specs.InMemory.{memory_in}
use Rattle.cs_steps.specs.Loading.{load_part}
use Rattle.cs_steps.proofs.LoadedWork.{loaded_works}
use Rattle.cs_steps.proofs.Working.{works_handed}
use Rattle.cs_steps.proofs.work.load_in_place.Goals as goal

pub returns-in_err-place-clause-work : goal.returns-in_err-place-clause-work
returns-in_err-place-clause-work g c = λ every at code names program budgets known model extends once alone integer.
    works_handed code names program known c.args.state.now _ _ _ c.from_residual.result
    (do_work code program budgets at (graph.Load (view.access c.args.access.now))) c.in_err-place.field-0.0 c.from_residual.ensures
    (λ waits. no_wait _ c.in_err-place.ensures.memory waits)

pub returns-in_err-loaded-clause-work : goal.returns-in_err-loaded-clause-work
returns-in_err-loaded-clause-work g c = λ every at code names program budgets known model extends once alone integer.
    let state = c.args.state.now in
    let access = view.access c.args.access.now in
    let place = c.in_ok-place.place in
    let act = do_work code program budgets at (graph.Load access) in
    let loads = c.in_err-loaded.ensures.integer every program names known extends once alone integer
    (c.in_ok-place.ensures.within program names.bases known alone) in
    let rest : Point → Valuation → Memory × Operand → Act CodeState =
    λ todo v given. Goes (push given.1 (with_memory given.0 (pop (stands code names program state todo v)))) in
    works_handed code names program known state _ _ _ c.from_residual-in_err-loaded.result act c.in_err-loaded.field-0.0
    c.from_residual-in_err-loaded.ensures
    (λ waits. (
      loads.unchanged waits,
      λ todo.
          part_waits code names program state todo act (load_part program names state access place) (rest todo)
          (λ v fits. ap (λ cell. load_object program (memory_in program names state v) state.frame.number access cell
          (λ memory operand. rest todo v (memory, operand)))
          (c.in_ok-place.ensures.value code names program v)) _ _ (loads.act.waits waits),
    ))

pub returns-clause-work : goal.returns-clause-work
returns-clause-work g c = λ every at code names program budgets known model extends once alone integer.
    let state = c.args.state.now in
    let access = view.access c.args.access.now in
    let place = c.in_ok-place.place in
    let act = do_work code program budgets at (graph.Load access) in
    let loads = c.in_ok-loaded.ensures.integer every program names known extends once alone integer
    (c.in_ok-place.ensures.within program names.bases known alone) in
    let rest : Point → Valuation → Memory × Operand → Act CodeState =
    λ todo v given. Goes (push given.1 (with_memory given.0 (pop (stands code names program state todo v)))) in
    loaded_works code names program known state alone c.load.new.state loads.same c.replace.new.state _ _ c.replace.result act
    c.in_ok-loaded.loaded (loads.inside program names.bases known alone) c.replace.ensures.left c.replace.ensures.means c.replace.ensures.memory
    (λ todo.
    part_leads code names program state todo act (load_part program names state access place) (rest todo)
    (λ v fits. ap (λ cell. load_object program (memory_in program names state v) state.frame.number access cell
    (λ memory operand. rest todo v (memory, operand)))
    (c.in_ok-place.ensures.value code names program v)) _ _ _ loads.act.through)
