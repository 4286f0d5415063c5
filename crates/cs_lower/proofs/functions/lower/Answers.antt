use Rattle.std.proofs.Common.{map, get_or, refl, sym, ap, subst, ◌∙◌, arith}
use Rattle.std.specs.Prelude.{option_map}
use Rattle.std.proofs.lemmas.List.{length-map}
use Rattle.cs_ast.specs.TypedProgram.{typed_program, routine}
use Rattle.cs_cfg.specs.GraphView as view
use Rattle.cs_lower.specs.Functions.{HasGraph}
use Rattle.cs_lower.proofs.Built.{map_push}
use Rattle.cs_lower.proofs.WholeBodies.{HasGraphsBelow, no_graphs, one_more_graph, all_placed, all_lowered, all_integers, routine_there}
use Rattle.cs_lower.proofs.functions.lower.Goals as goal

pub loop-function-init : goal.loop-function-init
loop-function-init c =
    let program = typed_program c.args.program.now in
    subst (λ l. HasGraphsBelow program 0 (map (option_map view.flow) l)) (sym c.new-flows.ensures.items) (no_graphs program)

pub loop-function-preserved : goal.loop-function-preserved
loop-function-preserved c =
    let program = typed_program c.args.program.now in
    let there = routine_there routine c.args.program.now.functions.items program c.loop-function.function-index c.function-item.result refl (omega arith)
    (c.function-item.is ∙ ap (λ l. get_or l c.loop-function.function-index c.function-item.result) c.deref-function-items.ensures.value) in
    let graph = option_map view.flow c.in_ok-flow.flow in
    one_more_graph graph (map_push (option_map view.flow) c.loop-function.flows.items c.push.new.self.items c.in_ok-flow.flow graph c.in_ok-push.ensures.items
    refl) c.loop-function.invariant
    (subst (λ r. HasGraph program r graph) (sym there) c.in_ok-flow.ensures)

pub returns-clause-placed : goal.returns-clause-placed
returns-clause-placed c =
    let all = length-map c.args.program.now.functions.items routine in
    all_placed (omega arith) c.loop-function.invariant

pub returns-clause-lowered : goal.returns-clause-lowered
returns-clause-lowered c =
    let all = length-map c.args.program.now.functions.items routine in
    all_lowered (omega arith) c.loop-function.invariant

pub returns-clause-integers : goal.returns-clause-integers
returns-clause-integers c =
    let all = length-map c.args.program.now.functions.items routine in
    all_integers (omega arith) c.loop-function.invariant
