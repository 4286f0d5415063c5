-- A call has as many operands as arguments.
use Rattle.std.proofs.Common.{◌≡◌, ℕ, Some, sym, ap, ◌∙◌}
use Rattle.cs_types.specs.Shape.{shape_of}
use Rattle.cs_ast.specs.TypedProgram.{typed_program}
use Rattle.cs_ast.specs.TypedTree.{Call}
use Rattle.cs_ast.specs.TypedView.{form, typed_list}
use Rattle.cs_ast.proofs.TypedRows.{form-Call}
use Rattle.cs_cfg.specs.Graph as graph
use Rattle.cs_cfg.specs.Standing.{work_of}
use Rattle.cs_lower.proofs.context.Lowering.work_of.Goals as goal

pub returns-in_ok-count_of-in-Call : goal.returns-in_ok-count_of-in-Call
returns-in_ok-count_of-in-Call c =
    let f = c.in-Call.function in
    let is : form c.args.e.now.kind.value ≡ Call f (typed_list c.deref-in-Call.result.now) =
    ap form (sym c.deref.ensures ∙ c.in-Call.is) ∙ (form-Call f c.in-Call.row ∙ ap (λ l. Call f (typed_list l)) (sym c.deref-in-Call.ensures.value)) in
    ap (λ (n : ℕ). Some (graph.Call f n)) c.in_ok-count_of-in-Call.ensures
    ∙ sym (ap (work_of (typed_program c.args.self.now.program.now) (shape_of c.args.e.now.ty)) is)
