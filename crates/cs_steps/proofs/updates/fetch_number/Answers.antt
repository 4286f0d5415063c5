use Rattle.std.proofs.Common.{◌≡◌, sym, ap, ◌∙◌, subst}
use Rattle.std.proofs.lemmas.Result.{on_ok_weaker}
use Rattle.cs_terms.specs.Term.{Valuation}
use Rattle.cs_events.specs.Acts.{Act}
use Rattle.cs_meaning.specs.Access.{load_object}
use Rattle.cs_meaning.specs.Machine.{Operand, with_memory}
use Rattle.cs_meaning.specs.Memory.{Memory}
use Rattle.cs_cfg.specs.Graph as graph
use Rattle.cs_cfg.specs.Graph.{Point}
use Rattle.cs_cfg.specs.GraphView as view
use Rattle.cs_cfg.specs.Working.{CodeState, do_work}
use Rattle.cs_state.specs.declared.state.State.{State}
use Rattle.cs_progress.specs.Locals.{MayAllBeIn}
use Rattle.cs_progress.proofs.Carrying.{no_wait}
use Rattle.cs_operators.proofs.Computed.{stands, part_leads, part_waits}
use Rattle.cs_cells.specs.InMemory.{memory_in}
use Rattle.cs_steps.specs.Fetching.{converts_beside}
use Rattle.cs_steps.specs.Loading.{load_part}
use Rattle.cs_steps.proofs.LoadedWork.{converts_loaded, fetch_works}
use Rattle.cs_steps.proofs.Working.{works_handed}
use Rattle.cs_steps.proofs.updates.fetch_number.Goals as goal

pub returns-in_err-place-clause-work : goal.returns-in_err-place-clause-work
returns-in_err-place-clause-work g c = λ every code names program budgets known model extends once alone integer.
    works_handed code names program known c.args.state.now _ _ _ c.from_residual.result
    (do_work code program budgets c.args.how.0 (graph.FetchNumber (view.access c.args.access.now) c.args.how.1)) c.in_err-place.field-0.0
    c.from_residual.ensures (λ waits. no_wait _ c.in_err-place.ensures.memory waits)

pub returns-in_err-loaded-clause-work : goal.returns-in_err-loaded-clause-work
returns-in_err-loaded-clause-work g c = λ every code names program budgets known model extends once alone integer.
    let state = c.args.state.now in
    let access = view.access c.args.access.now in
    let place = c.in_ok-place.place in
    let act = do_work code program budgets c.args.how.0 (graph.FetchNumber access c.args.how.1) in
    let loads = c.in_err-loaded.ensures.integer every program names known extends once alone integer
    (c.in_ok-place.ensures.within program names.bases known alone) in
    let rest : Point → Valuation → Memory × Operand → Act CodeState =
    λ todo v given. converts_beside program.model c.args.how.0 access.ty c.args.how.1 given.1 (with_memory given.0 (stands code names program state todo v)) in
    works_handed code names program known state _ _ _ c.from_residual-in_err-loaded.result act c.in_err-loaded.field-0.0
    c.from_residual-in_err-loaded.ensures
    (λ waits. (
      loads.unchanged waits,
      λ todo.
          part_waits code names program state todo act (load_part program names state access place) (rest todo)
          (λ v fits. ap (λ cell. load_object program (memory_in program names state v) state.frame.number access cell
          (λ memory operand. rest todo v (memory, operand)))
          (c.in_ok-place.ensures.value code names program v)) _ _ (loads.act.waits waits),
    ))

pub returns-clause-work : goal.returns-clause-work
returns-clause-work g c = λ every code names program budgets known model extends once alone integer.
    let state = c.args.state.now in
    let access = view.access c.args.access.now in
    let place = c.in_ok-place.place in
    let loaded = c.in_ok-loaded.loaded in
    let act = do_work code program budgets c.args.how.0 (graph.FetchNumber access c.args.how.1) in
    let loads = c.in_ok-loaded.ensures.integer every program names known extends once alone integer
    (c.in_ok-place.ensures.within program names.bases known alone) in
    let same_model : program.model ≡ c.model.result = model ∙ sym c.model.ensures in
    let rest : Point → Valuation → Memory × Operand → Act CodeState =
    λ todo v given.
    converts_beside c.model.result c.args.how.0 access.ty c.args.how.1 given.1 (with_memory given.0 (stands code names program state todo v)) in
    fetch_works code names program known state alone c.load.new.state loads.same c.push_converted.new.state _ _ c.push_converted.result act _
    (converts_loaded names c.model.result c.args.how.0 access.ty c.args.how.1 loaded)
    (c.push_converted.ensures.act code names program) c.push_converted.ensures.frame
    (on_ok_weaker c.push_converted.result (λ keeps.
    keeps (subst (λ (s : State). MayAllBeIn s loaded) (sym loads.same) loads.inside) program names.bases known)
    c.push_converted.ensures.locals) c.push_converted.ensures.unchanged
    (λ todo.
    part_leads code names program state todo act (load_part program names state access place) (rest todo)
    (λ v fits i. load_object program (memory_in program names state v) state.frame.number access (c.in_ok-place.ensures.value code names program v i)
    (λ memory operand. converts_beside (same_model i) c.args.how.0 access.ty c.args.how.1 operand
    (with_memory memory (stands code names program state todo v))))
    _ _ _ loads.act.through)
