use Rattle.std.proofs.Common.{refl, OnOk, subst}
use Rattle.cs_cfg.specs.Graph as graph
use Rattle.cs_cfg.specs.Working.{do_work}
use Rattle.cs_regions.specs.declared.base.Base.{Base}
use Rattle.cs_state.specs.Naming.{naming}
use Rattle.cs_progress.specs.Operands.{IsPlacePushed}
use Rattle.cs_progress.proofs.Looks.{leads_same}
use Rattle.cs_steps.proofs.Dispatching.{works_named}
use Rattle.cs_steps.proofs.work.name_local.Goals as goal

pub returns-clause-work : goal.returns-clause-work
returns-clause-work c = λ model at progress code names program budgets known is extends numbered have early.
    let state = c.args.state.now in
    let given = naming c.name.new.tables in
    works_named code names program known state progress progress (do_work code program budgets at (graph.Local c.args.decl))
    c.name.new.state c.name.result have given c.args.decl extends early
    (subst (λ (base : Base). OnOk c.name.result (IsPlacePushed given.bases base state c.name.new.state)) c.local-base.ensures c.name.ensures.pushed)
    c.name.ensures.memory (λ todo cells v fits. leads_same cells _ _ _ refl)
