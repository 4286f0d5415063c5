use Rattle.std.proofs.Common.{◌≡◌, ◌∙◌, sym, ap, refl, subst, List, [], map, ℕ}
use Rattle.std.proofs.lemmas.List.{length-map}
use Rattle.cs_ast.specs.TypedProgram.{typed_program, routine, variable, Variable}
use Rattle.cs_cfg.specs.GraphView as graph
use Rattle.cs_state.specs.Naming.{naming}
use Rattle.cs_state.specs.Starting.{HaveSizes, DifferInName, HasReceived}
use Rattle.cs_state.proofs.Started.{none_received, parameters_there, parameters_missing, started}
use Rattle.cs_state.proofs.state.State.start.Goals as goal

pub returns-in_default-clause-start : goal.returns-in_default-clause-start
returns-in_default-clause-start c =
    started (graph.code c.args.code.now) (typed_program c.args.program.now) c.args.entry (naming c.args.tables.now) [] c.in_ok-state.state
    c.in_ok-state.state c.in_ok-state.ensures refl (parameters_missing (typed_program c.args.program.now) c.args.entry c.in_default.ensures)
    (none_received (graph.code c.args.code.now) c.args.program.now.model c.args.entry (typed_program c.args.program.now) (naming c.args.tables.now) []
    c.in_ok-state.state c.in_ok-state.ensures)

pub receive_all-requires-clause-sizes : goal.receive_all-requires-clause-sizes
receive_all-requires-clause-sizes c =
    subst (λ (vs : List Variable). HaveSizes (typed_program c.args.program.now) vs)
    (sym (c.parameters.ensures ∙ parameters_there (typed_program c.args.program.now) c.args.entry (routine c.in-Some.function.now) c.in-Some.ensures))
    c.requires.sizes

pub receive_all-requires-clause-names : goal.receive_all-requires-clause-names
receive_all-requires-clause-names c =
    subst (λ (vs : List Variable). DifferInName vs)
    (sym (c.parameters.ensures ∙ parameters_there (typed_program c.args.program.now) c.args.entry (routine c.in-Some.function.now) c.in-Some.ensures))
    c.requires.names

pub receive_all-requires-clause-new : goal.receive_all-requires-clause-new
receive_all-requires-clause-new c =
    none_received (graph.code c.args.code.now) c.args.program.now.model c.args.entry (typed_program c.args.program.now) (naming c.args.tables.now) _
    c.in_ok-state.state c.in_ok-state.ensures

pub returns-clause-start : goal.returns-clause-start
returns-clause-start c =
    let variables : List Variable = map variable c.parameters.result.now in
    started (graph.code c.args.code.now) (typed_program c.args.program.now) c.args.entry (naming c.receive_all.new.tables) variables c.in_ok-state.state
    c.receive_all.new.self c.in_ok-state.ensures c.in_ok-receive_all.ensures.rest
    (c.parameters.ensures ∙ parameters_there (typed_program c.args.program.now) c.args.entry (routine c.in-Some.function.now) c.in-Some.ensures)
    (subst (λ (n : ℕ). HasReceived (typed_program c.args.program.now) (naming c.receive_all.new.tables) variables n c.receive_all.new.self)
    (sym (length-map c.parameters.result.now variable)) c.in_ok-receive_all.ensures.all)
