-- The parts of an exploration as plain data.
use Rattle.std.specs.Prelude.{◌≡◌}
use Rattle.cs_types.specs.declared.data_model.DataModel.{DataModel}
use Rattle.cs_ast.specs.TypedProgram.{TypedProgram}
use Rattle.cs_events.specs.declared.outcome.RunBudgets.{RunBudgets}
use Rattle.cs_cfg.specs.Graph.{Code}
use Rattle.cs_cfg.specs.GraphView as view
use Rattle.cs_regions.specs.Numbering.{IsNumbered}
use Rattle.cs_state.specs.Naming.{Naming, Extends}
use Rattle.cs_successors.specs.declared.exploration.Exploration.{Exploration}

-- the code that is explored, its data model, the budgets of its runs
abbrev pub code_of : Exploration → Code
code_of exploration = view.code exploration.context.now.code.now

abbrev pub model_of : Exploration → DataModel
model_of exploration = exploration.context.now.setting.now.program.now.model

abbrev pub limits_of : Exploration → RunBudgets
limits_of exploration = exploration.context.now.setting.now.budgets

-- an exploration is of this program, with these names of base regions, and its budget of events is that of a run
pub record Explores (exploration : Exploration) (given names : Naming) (program : TypedProgram) : Type 0 where
  pub model : program.model ≡ model_of exploration
  pub limit : exploration.budgets.events ≡ (limits_of exploration).events
  pub extends : Extends given names
  pub numbered : IsNumbered names.bases
