-- All of an operation, from the part of its act that it carries out and its result: for the contracts of `computing`.
use Rattle.std.proofs.Common.{◌≡◌, ℕ, ℤ, Bool, Result, Ok, Err, IsErr, IsErrAnd, IfErr, OnOk, true≢false, sym, ap, ◌∙◌}
use Rattle.cs_inputs.specs.declared.path.Path.{Path}
use Rattle.cs_ast.specs.TypedProgram.{TypedProgram}
use Rattle.cs_terms.specs.Term.{Valuation}
use Rattle.cs_constraints.specs.Constraints.{Fits}
use Rattle.cs_events.specs.declared.input.InputKind.{InputKind}
use Rattle.cs_events.specs.Objects.{Cell, NumberCell}
use Rattle.cs_events.specs.Acts.{Act, Goes}
use Rattle.cs_meaning.specs.Initials.{truth_cell}
use Rattle.cs_meaning.specs.Machine.{to_do, push, push_cell, pop_many}
use Rattle.cs_cfg.specs.Graph.{Point, Code}
use Rattle.cs_cfg.specs.Working.{CodeState}
use Rattle.cs_state.specs.declared.state.State.{State}
use Rattle.cs_state.specs.declared.temporary.Temporary.{Temporary}
use Rattle.cs_state.specs.Cells.{operand_of}
use Rattle.cs_state.specs.Meaning.{meaning}
use Rattle.cs_state.specs.Naming.{Naming}
use Rattle.cs_progress.specs.declared.next.Next.{Next}
use Rattle.cs_progress.specs.declared.pause.Pause.{Pause}
use Rattle.cs_progress.specs.declared.pause.Pause.TheVariants as pause
use Rattle.cs_progress.specs.declared.progress.Progress.{Progress}
use Rattle.cs_progress.specs.Acting.{Leads, Gives, WaitsFor}
use Rattle.cs_progress.specs.Answering.{answers_left}
use Rattle.cs_progress.specs.Computing.{Computes}
use Rattle.cs_progress.specs.Operands.{MeansReplaced}
use Rattle.cs_progress.proofs.Looks.{leads_same}
use Rattle.cs_progress.proofs.Composing.{leads_on, waits_on}
use Rattle.cs_progress.proofs.Carrying.{no_wait}

module _ (code : Code) (names : Naming) (program : TypedProgram) (before : State) where
  -- the state of the run before the operation, with this to do after it
  abbrev pub stands : Point → Valuation → CodeState
  stands todo v = to_do todo (meaning code names program before v)

  -- under each valuation that fits, an act leads to another
  abbrev pub AllLead : ℕ → ℕ → (Valuation → Act CodeState) → (Valuation → Act CodeState) → Type 0
  AllLead earlier later one two = (cells : Path → InputKind → Cell) (v : Valuation) → Fits v before.constraints
      → Leads cells (answers_left before earlier v) (answers_left before later v) (one v) (two v)

  -- one temporary replaces some, and the run continues
  abbrev pub leaves : ℕ → Temporary → Point → Valuation → Act CodeState
  leaves count left todo v = Goes (push (operand_of names.bases before.blocks v left) (pop_many count (stands todo v)))

  -- a number or another cell replaces some operands, and the run continues
  abbrev pub number_left : ℕ → Point → Valuation → ℤ → Act CodeState
  number_left count todo v number = Goes (push_cell (NumberCell number) (pop_many count (stands todo v)))

  abbrev pub cell_left : ℕ → Point → Valuation → Cell → Act CodeState
  cell_left count todo v cell = Goes (push_cell cell (pop_many count (stands todo v)))

  abbrev pub truth_left : ℕ → Point → Valuation → Bool → Act CodeState
  truth_left count todo v holds = Goes (push_cell (truth_cell holds) (pop_many count (stands todo v)))

  module _ (after : State) (earlier later : Progress) {T : Type 0} (answer : Result T Pause) (act : CodeState → Act CodeState) where
    -- an act that leads to the new temporary is done once it has replaced the others
    pub replaced : (count : ℕ) (left : Temporary) → OnOk answer (MeansReplaced count left before after)
        → IfErr answer (λ why. why ≡ pause.Memory)
        → ((todo : Point) → AllLead earlier.used later.used (λ v. act (stands todo v)) (leaves count left todo))
        → Computes code names program before after earlier later answer act
    replaced count left means memory leads = by_case answer means memory
      where
        by_case : (r : Result T Pause) → OnOk r (MeansReplaced count left before after) → IfErr r (λ why. why ≡ pause.Memory)
            → Computes code names program before after earlier later r act
        by_case (Ok done) means memory = record {
          done = λ todo cells v fits.
              leads_on cells _ _ _ (act (stands todo v)) (leaves count left todo v) _ (leads todo cells v fits)
              (leads_same cells _ _ _ (ap (λ m. Goes (to_do todo m)) (sym (means code names program v))));
          waits = tt;
        }
        by_case (Err why) means memory = record { done = tt; waits = λ waits. no_wait why memory waits }

    -- an error that is returned is waited for
    pub waited : (why : Pause) → IsErr answer × IsErrAnd answer (λ e. e ≡ why)
        → (why ≡ pause.Waits → (todo : Point) → WaitsFor names.bases before earlier.used later.first (λ v. act (stands todo v)))
        → Computes code names program before after earlier later answer act
    waited why is waits = by_case answer is
      where
        by_case : (r : Result T Pause) → IsErr r × IsErrAnd r (λ e. e ≡ why) → Computes code names program before after earlier later r act
        by_case (Ok done) is = absurd (true≢false (sym is.0))
        by_case (Err e) is = record { done = tt; waits = λ so. waits (sym is.1 ∙ so) }

  module _ (todo : Point) {Given : Type 0} (act : CodeState → Act CodeState) (part : Valuation → (Given → Act CodeState) → Act CodeState)
      (rest : Valuation → Given → Act CodeState) (same : (v : Valuation) → Fits v before.constraints → act (stands todo v) ≡ part v (rest v)) where
    -- an act that consists of a part and a rest
    pub part_leads : (earlier later : ℕ) (given : Valuation → Given) → Gives before earlier later part given
        → AllLead earlier later (λ v. act (stands todo v)) (λ v. rest v (given v))
    part_leads earlier later given gives cells v fits =
        leads_on cells _ _ _ (act (stands todo v)) (part v (rest v)) (rest v (given v)) (leads_same cells _ _ _ (same v fits)) (gives cells v fits (rest v))

    pub part_waits : (earlier : ℕ) (first : Next)
        → ((onward : Given → Act CodeState) → WaitsFor names.bases before earlier first (λ v. part v onward))
        → WaitsFor names.bases before earlier first (λ v. act (stands todo v))
    part_waits earlier first waits cells v fits =
        waits_on cells _ _ (act (stands todo v)) (part v (rest v)) names.bases before v first (leads_same cells _ _ _ (same v fits))
        (waits (rest v) cells v fits)
