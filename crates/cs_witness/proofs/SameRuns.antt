-- Inputs with the same numbers for the parameters and for all that a run reads yield the same run.
use Rattle.std.proofs.Common.{◌≡◌, ℕ, suc, ℤ, List, [], ◌∷◌, map, inl, inr, ◌⊎◌, refl, ap, ◌∙◌, subst, arith}
use Rattle.std.specs.Prelude.{Contains}
use Rattle.cs_types.specs.declared.data_model.DataModel.{DataModel}
use Rattle.cs_inputs.specs.declared.path.Path.{Path}
use Rattle.cs_inputs.specs.Inputs.{number_at}
use Rattle.cs_ast.specs.TypedProgram.{TypedProgram, Variable}
use Rattle.cs_events.specs.declared.guess.Guess.{Guess}
use Rattle.cs_events.specs.declared.input.InputKind.{InputKind}
use Rattle.cs_events.specs.declared.input.InputKind.TheVariants.{Integer, Pointer, Allocation, Nothing}
use Rattle.cs_events.specs.declared.input.Lookup.{Lookup}
use Rattle.cs_events.specs.declared.outcome.Outcome.{Outcome}
use Rattle.cs_events.specs.declared.outcome.RunBudgets.{RunBudgets}
use Rattle.cs_events.specs.InputCells.{input_cell, input_kind}
use Rattle.cs_events.specs.Operations.{is_true}
use Rattle.cs_events.specs.Objects.{Cell}
use Rattle.cs_events.specs.Runs.{Log, Ends}
use Rattle.cs_event_runs.specs.Settings.{GiveAlike, Agree}
use Rattle.cs_event_runs.proofs.CellsThatMatter.{reads_alone_matter}
use Rattle.cs_meaning.specs.Calls.{with_locals, new_frame}
use Rattle.cs_meaning.specs.Inputs.{opened}
use Rattle.cs_meaning.specs.Machine.{Operand, Scalar, State, routine_of}
use Rattle.cs_meaning.specs.Memory.{Memory}
use Rattle.cs_meaning.specs.ProgramRuns.{ProgramRun, setting_of, start_of, RunGives}
use Rattle.cs_meaning.specs.Steps.{step, parameter_path, received, with_received, parameters_of, static_memory}
use Rattle.cs_witness.specs.Listing.{path_read}

gives_alike : (model : DataModel) (one other : Path → ℤ) (path : Path) (kind : InputKind) → one path ≡ other path
    → GiveAlike model one other (record { path = path; kind = kind })
gives_alike model one other path (Integer ty) e = ap (input_cell model path (Integer ty)) e
gives_alike model one other path Pointer e = ap (input_cell model path Pointer) e
gives_alike model one other path Allocation e = ap is_true e
gives_alike model one other path Nothing e = tt

-- an item of a list's rest is one of the list
later : {A : Type 0} (x y : A) (xs : List A) → Contains xs y → Contains (x ∷ xs) y
later x y xs here = (suc here.0, let before = here.1 in omega arith, here.2)

first : {A : Type 0} (x : A) (xs : List A) → Contains (x ∷ xs) x
first x xs = (0, omega arith, refl)

module _ (program : TypedProgram) (one other : List (Path × ℤ)) where
  agree_on : (lookups : List Lookup) → ((path : Path) → Contains (map path_read lookups) path → number_at one path ≡ number_at other path)
      → Agree program.model (number_at one) (number_at other) lookups
  agree_on [] same = tt
  agree_on (lookup ∷ lookups) same = (
    gives_alike program.model (number_at one) (number_at other) lookup.path lookup.kind
        (same lookup.path (first lookup.path (map path_read lookups))),
    agree_on lookups (λ path here. same path (later lookup.path path (map path_read lookups) here)),
  )

  received_alike : (v : Variable) → number_at one (parameter_path v) ≡ number_at other (parameter_path v)
      → received program (number_at one) v ≡ received program (number_at other) v
  received_alike v e = ap (input_cell program.model (parameter_path v) (input_kind v.ty)) e

  all_received : (vs : List Variable)
      → ((path : Path) → Contains (map parameter_path vs) path → number_at one path ≡ number_at other path)
      → map (λ v. Scalar (received program (number_at one) v)) vs ≡ map (λ v. Scalar (received program (number_at other) v)) vs
  all_received [] same = refl
  all_received (v ∷ vs) same =
      let head = received_alike v (same (parameter_path v) (first (parameter_path v) (map parameter_path vs))) in
      let rest = all_received vs (λ path here. same path (later (parameter_path v) path (map parameter_path vs) here)) in
      λ i. Scalar (head i) ∷ rest i

  memory_alike : (vs : List Variable) (memory : Memory)
      → ((path : Path) → Contains (map parameter_path vs) path → number_at one path ≡ number_at other path)
      → with_received program (number_at one) vs memory ≡ with_received program (number_at other) vs memory
  memory_alike [] memory same = refl
  memory_alike (v ∷ vs) memory same =
      let head = received_alike v (same (parameter_path v) (first (parameter_path v) (map parameter_path vs))) in
      ap (λ (cell : Cell). with_received program (number_at one) vs (opened program (parameter_path v) v.ty v.block cell memory)) head
      ∙ memory_alike vs (opened program (parameter_path v) v.ty v.block (received program (number_at other) v) memory)
      (λ path here. same path (later (parameter_path v) path (map parameter_path vs) here))

  module _ (entry : ℕ) (guesses : List Guess) (budgets : RunBudgets) where
    start_alike : ((path : Path) → Contains (map parameter_path (parameters_of (routine_of program entry))) path
        → number_at one path ≡ number_at other path)
        → start_of program entry (record { inputs = one; guesses = guesses }) ≡ start_of program entry (record { inputs = other; guesses = guesses })
    start_alike same =
        let routine = routine_of program entry in
        let made : List Operand → Memory → State = λ cells memory. record {
          frame = new_frame entry 0 routine;
          callers = [];
          memory = with_locals program 0 routine.variables cells memory;
          frames = 1;
          allocations = 0;
          calls = 0;
        } in
        let cells = all_received (parameters_of routine) same in
        let memory = memory_alike (parameters_of routine) (static_memory program) same in
        λ i. made (cells i) (memory i)

    -- the same run
    pub same_run : (outcome : Outcome) (log : Log) → RunGives program entry (record { inputs = one; guesses = guesses }) budgets outcome log
        → ((path : Path) → Contains (map parameter_path (parameters_of (routine_of program entry))) path ⊎ Contains (map path_read log.read) path
        → number_at one path ≡ number_at other path)
        → RunGives program entry (record { inputs = other; guesses = guesses }) budgets outcome log
    same_run outcome log given same =
        let run : ProgramRun = record { inputs = other; guesses = guesses } in
        let alike = reads_alone_matter (setting_of program (record { inputs = one; guesses = guesses }) budgets) (number_at other) (step program budgets) given
        (agree_on log.read (λ path here. same path (inr here))) in
        subst (λ (s : State). Ends (step program budgets) (setting_of program run budgets) s outcome log)
        (start_alike (λ path here. same path (inl here))) alike
