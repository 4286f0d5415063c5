use Rattle.cs_cfg.specs.Graph as graph
use Rattle.cs_cfg.specs.Working.{do_work}
use Rattle.cs_progress.proofs.KeptLocals.{have_names}
use Rattle.cs_steps.proofs.Dispatching.{works_of}
use Rattle.cs_types.specs.Shape.{shape_of}
use Rattle.cs_steps.proofs.work.compute.Goals as goal

pub returns-in-Sum-clause-work : goal.returns-in-Sum-clause-work
returns-in-Sum-clause-work g c = λ every code names program budgets known model extends numbered have integer. absurd (rw c.in-Sum.is at integer)

pub returns-in-Member-clause-work : goal.returns-in-Member-clause-work
returns-in-Member-clause-work g c = λ every code names program budgets known model extends numbered have integer. absurd (rw c.in-Member.is at integer)

pub returns-in-Arrow-clause-work : goal.returns-in-Arrow-clause-work
returns-in-Arrow-clause-work g c = λ every code names program budgets known model extends numbered have integer. absurd (rw c.in-Arrow.is at integer)

pub returns-in-Difference-clause-work : goal.returns-in-Difference-clause-work
returns-in-Difference-clause-work g c = λ every code names program budgets known model extends numbered have integer. absurd (rw c.in-Difference.is at integer)

pub returns-in-Unary-clause-work : goal.returns-in-Unary-clause-work
returns-in-Unary-clause-work g c = λ every code names program budgets known model extends numbered have integer.
    let state = c.args.state.now in
    rw c.in-Unary.is (works_of code names program known state _ _
    (do_work code program budgets c.args.operation.now.place (graph.Unary c.in-Unary.operator c.in-Unary.ty)) _ _ have
    (c.unary.ensures.act code names program budgets) c.unary.ensures.frame c.unary.ensures.locals c.unary.ensures.unchanged)

pub returns-in-Not-clause-work : goal.returns-in-Not-clause-work
returns-in-Not-clause-work g c = λ every code names program budgets known model extends numbered have integer.
    let state = c.args.state.now in
    rw c.in-Not.is (works_of code names program known state _ _ (do_work code program budgets c.args.operation.now.place graph.Not) _ _ have
    (c.negate.ensures.act code names program budgets (have_names program names.bases known state have)) c.negate.ensures.frame c.negate.ensures.locals
    c.negate.ensures.unchanged)

pub returns-in-Judge-clause-work : goal.returns-in-Judge-clause-work
returns-in-Judge-clause-work g c = λ every code names program budgets known model extends numbered have integer.
    let state = c.args.state.now in
    rw c.in-Judge.is (works_of code names program known state _ _ (do_work code program budgets c.args.operation.now.place graph.Judge) _ _ have
    (c.judge.ensures.act code names program budgets (have_names program names.bases known state have)) c.judge.ensures.frame c.judge.ensures.locals
    c.judge.ensures.unchanged)

pub returns-in-Binary-clause-work : goal.returns-in-Binary-clause-work
returns-in-Binary-clause-work g c = λ every code names program budgets known model extends numbered have integer.
    let state = c.args.state.now in
    rw c.in-Binary.is (works_of code names program known state _ _
    (do_work code program budgets c.args.operation.now.place (graph.Binary c.in-Binary.operator c.in-Binary.ty)) _ _ have
    (c.binary.ensures.act every code names program budgets model) c.binary.ensures.frame c.binary.ensures.locals c.binary.ensures.unchanged)

pub returns-in-Compare-clause-work : goal.returns-in-Compare-clause-work
returns-in-Compare-clause-work g c = λ every code names program budgets known model extends numbered have integer.
    let state = c.args.state.now in
    rw c.in-Compare.is (works_of code names program known state _ _
    (do_work code program budgets c.args.operation.now.place (graph.Compare c.in-Compare.operator)) _ _ have
    (c.compare_operands.ensures.act every code names program budgets numbered (have_names program names.bases known state have))
    c.compare_operands.ensures.frame c.compare_operands.ensures.locals c.compare_operands.ensures.unchanged)

pub returns-in-Convert-clause-work : goal.returns-in-Convert-clause-work
returns-in-Convert-clause-work g c = λ every code names program budgets known model extends numbered have integer.
    let state = c.args.state.now in
    rw c.in-Convert.is (works_of code names program known state _ _
    (do_work code program budgets c.args.operation.now.place (graph.Convert (shape_of c.in-Convert.from) (shape_of c.in-Convert.to))) _ _ have
    (c.convert.ensures.act code names program budgets model) c.convert.ensures.frame c.convert.ensures.locals c.convert.ensures.unchanged)
