-- Operations that only compute with their operands: all of their act.
use Rattle.std.specs.Prelude.{◌≡◌, List, All, Result, OnOk, IfErr}
use Rattle.cs_inputs.specs.declared.path.Path.{Path}
use Rattle.cs_ast.specs.TypedProgram.{TypedProgram}
use Rattle.cs_terms.specs.Term.{Valuation}
use Rattle.cs_constraints.specs.Constraints.{Fits}
use Rattle.cs_events.specs.declared.input.InputKind.{InputKind}
use Rattle.cs_events.specs.Objects.{Cell}
use Rattle.cs_events.specs.Acts.{Act, Goes}
use Rattle.cs_meaning.specs.Machine.{to_do}
use Rattle.cs_cfg.specs.Graph.{Point, Code}
use Rattle.cs_cfg.specs.Working.{CodeState}
use Rattle.cs_regions.specs.declared.base.Base.{Base}
use Rattle.cs_state.specs.declared.state.State.{State}
use Rattle.cs_state.specs.declared.temporary.Temporary.{Temporary}
use Rattle.cs_state.specs.declared.temporary.Temporary.TheVariants as temporary
use Rattle.cs_state.specs.Meaning.{meaning}
use Rattle.cs_state.specs.Naming.{Naming}
use Rattle.cs_progress.specs.declared.pause.Pause.{Pause}
use Rattle.cs_progress.specs.declared.pause.Pause.TheVariants as pause
use Rattle.cs_progress.specs.declared.progress.Progress.{Progress}
use Rattle.cs_progress.specs.Acting.{IsNamed, Leads, WaitsFor}
use Rattle.cs_progress.specs.Answering.{answers_left}

-- the base regions of all pointers of a temporary have names
abbrev pub IsNamedTemporary : List Base → Temporary → Type 0
IsNamedTemporary bases (temporary.Scalar value) = IsNamed bases value
IsNamedTemporary bases (temporary.Whole values) = All (IsNamed bases) values
IsNamedTemporary bases temporary.Nothing = Unit {0}

-- the same for all temporaries of the current frame
abbrev pub HaveNames : List Base → State → Type 0
HaveNames bases state = All (IsNamedTemporary bases) state.frame.temporaries

-- under each valuation that fits, an operation does all of its act, which continues with the resulting state; or what it waits for comes first
-- in what remains of the act. This holds for any point of the code at which the run's frame continues: the operation doesn't change that
pub record Computes {T : Type 0} (code : Code) (names : Naming) (program : TypedProgram) (before after : State) (earlier later : Progress)
    (answer : Result T Pause) (act : CodeState → Act CodeState) : Type 0 where
  pub done : OnOk answer ((todo : Point) (cells : Path → InputKind → Cell) (valuation : Valuation) → Fits valuation before.constraints
      → Leads cells (answers_left before earlier.used valuation) (answers_left before later.used valuation)
      (act (to_do todo (meaning code names program before valuation))) (Goes (to_do todo (meaning code names program after valuation))))
  pub waits : IfErr answer (λ why. why ≡ pause.Waits → (todo : Point)
      → WaitsFor names.bases before earlier.used later.first (λ valuation. act (to_do todo (meaning code names program before valuation))))
