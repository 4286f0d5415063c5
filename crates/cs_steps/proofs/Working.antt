-- All of an operation that writes to memory: for the contracts of operations that store.
use Rattle.std.proofs.Common.{◌≡◌, ℕ, Bool, Result, Ok, Err, IsErr, IsErrAnd, OnOk, IfErr, true≢false, sym, ap, ◌∙◌, subst}
use Rattle.cs_ast.specs.TypedProgram.{TypedProgram}
use Rattle.cs_terms.specs.Term.{Valuation}
use Rattle.cs_events.specs.Acts.{Act, Goes}
use Rattle.cs_meaning.specs.Machine.{to_do, push, pop_many, with_memory}
use Rattle.cs_cfg.specs.Graph.{Point, Code}
use Rattle.cs_cfg.specs.Working.{CodeState}
use Rattle.cs_state.specs.declared.state.State.{State}
use Rattle.cs_state.specs.declared.temporary.Temporary.{Temporary}
use Rattle.cs_state.specs.Cells.{operand_of}
use Rattle.cs_state.specs.Meaning.{meaning}
use Rattle.cs_state.specs.Naming.{Naming}
use Rattle.cs_state.specs.Writes as writes
use Rattle.cs_progress.specs.declared.pause.Pause.{Pause}
use Rattle.cs_progress.specs.declared.pause.Pause.TheVariants as pause
use Rattle.cs_progress.specs.declared.progress.Progress.{Progress}
use Rattle.cs_progress.specs.Acting.{WaitsFor}
use Rattle.cs_progress.specs.Locals.{AreIn, HasLocalsAlone}
use Rattle.cs_progress.specs.Operands.{IsDropped, IsReplaced, MeansDropped, MeansReplaced}
use Rattle.cs_progress.specs.Stepping.{StaysInFrame, Works}
use Rattle.cs_progress.proofs.Looks.{leads_same}
use Rattle.cs_progress.proofs.Composing.{leads_on}
use Rattle.cs_progress.proofs.Carrying.{no_wait}
use Rattle.cs_progress.proofs.KeptLocals.{stays as moved_stays, dropped_locals, replaced_locals}
use Rattle.cs_operators.proofs.Computed.{stands, AllLead, waited}
use Rattle.cs_cells.specs.InMemory.{memory_in}
use Rattle.cs_cells.proofs.WrittenLocals.{written_stays, written_means}

pub stays_on : (one two three : State) → StaysInFrame one two → StaysInFrame two three → StaysInFrame one three
stays_on one two three first second = record {
  known = record {
    model = second.known.model ∙ first.known.model;
    constraints = second.known.constraints ∙ first.known.constraints;
    counters = second.known.counters ∙ first.known.counters;
    asked = second.known.asked ∙ first.known.asked;
    phase = second.known.phase ∙ first.known.phase;
    blocks = second.known.blocks ∙ first.known.blocks;
  };
  answers = second.answers ∙ first.answers;
  callers = second.callers ∙ first.callers;
  number = second.number ∙ first.number;
  spot = second.spot ∙ first.spot;
}

module _ (code : Code) (names : Naming) (program : TypedProgram) (known : ℕ → Bool) (before after : State) (earlier later : Progress)
    {T : Type 0} (answer : Result T Pause) (act : CodeState → Act CodeState) where
  abbrev pub IsWork : Type 0
  IsWork = Works code names program known before after earlier later answer act

  -- an error that is returned is waited for, and has changed nothing
  pub works_handed : (why : Pause) → IsErr answer × IsErrAnd answer (λ e. e ≡ why)
      → (why ≡ pause.Waits → (after ≡ before)
      × ((todo : Point) → WaitsFor names.bases before earlier.used later.first (λ v. act (stands code names program before todo v))))
      → IsWork
  works_handed why is waits = by_case answer is
    where
      by_case : (r : Result T Pause) → IsErr r × IsErrAnd r (λ e. e ≡ why) → Works code names program known before after earlier later r act
      by_case (Ok done) is = absurd (true≢false (sym is.0))
      by_case (Err e) is = record {
        computes = waited code names program before after earlier later (Err e) act why is (λ so. (waits so).1);
        stays = tt;
        locals = tt;
        unchanged = λ so. (waits (sym is.1 ∙ so)).0;
      }

  -- the run continues with the state after the work, whose pointers point to locals only
  pub record IsDone : Type 0 where
    pub stays : StaysInFrame before after
    pub locals : HasLocalsAlone program names.bases known after
    pub goes : (todo : Point) → AllLead code names program before earlier.used later.used (λ v. act (stands code names program before todo v))
        (λ v. Goes (to_do todo (meaning code names program after v)))

  pub works_done : OnOk answer IsDone → IfErr answer (λ why. why ≡ pause.Memory) → IsWork
  works_done done memory = by_case answer done memory
    where
      by_case : (r : Result T Pause) → OnOk r IsDone → IfErr r (λ why. why ≡ pause.Memory)
          → Works code names program known before after earlier later r act
      by_case (Ok x) done memory = record {
        computes = record { done = done.goes; waits = tt };
        stays = done.stays;
        locals = done.locals;
        unchanged = tt;
      }
      by_case (Err why) done memory = record {
        computes = record { done = tt; waits = no_wait why memory };
        stays = tt;
        locals = tt;
        unchanged = no_wait why memory;
      }

  module _ (middle : State) (rest : middle ≡ writes.with_memory middle.store middle.read before)
      (locals : HasLocalsAlone program names.bases known middle) where
    -- the act leads to memory that was written, and to a temporary that replaces some
    pub works_replaced : (count : ℕ) (left : Temporary) → AreIn program names.bases known before.frame left
        → OnOk answer (IsReplaced count left middle after) → OnOk answer (MeansReplaced count left middle after)
        → IfErr answer (λ why. why ≡ pause.Memory)
        → ((todo : Point) → AllLead code names program before earlier.used later.used (λ v. act (stands code names program before todo v))
        (λ v. Goes (push (operand_of names.bases before.blocks v left) (with_memory (memory_in program names middle v)
        (pop_many count (stands code names program before todo v))))))
        → IsWork
    works_replaced count left inside is means memory leads = works_done (by_case answer is means) memory
      where
        by_case : (r : Result T Pause) → OnOk r (IsReplaced count left middle after) → OnOk r (MeansReplaced count left middle after) → OnOk r IsDone
        by_case (Err why) is means = tt
        by_case (Ok x) is means = record {
          stays = stays_on before middle after (written_stays before middle rest) (moved_stays _ middle after is);
          locals = replaced_locals program names.bases known count left middle after
              (subst (λ (s : State). AreIn program names.bases known s.frame left) (sym rest) inside) is locals;
          goes = λ todo cells v fits.
              leads_on cells _ _ _ (act (stands code names program before todo v)) _ _ (leads todo cells v fits)
              (leads_same cells _ _ _ (ap (λ m. Goes (to_do todo m)) (sym (means code names program v ∙ same v))));
        }
          where
            same : (v : Valuation) → push (operand_of names.bases middle.blocks v left) (pop_many count (meaning code names program middle v))
                ≡ push (operand_of names.bases before.blocks v left) (with_memory (memory_in program names middle v)
                (pop_many count (meaning code names program before v)))
            same v = λ i. push (operand_of names.bases ((rest i).blocks) v left) (pop_many count (written_means before middle rest program names code v i))

    -- the same if some temporaries are popped
    pub works_dropped : (count : ℕ) → OnOk answer (IsDropped count middle after) → OnOk answer (MeansDropped count middle after)
        → IfErr answer (λ why. why ≡ pause.Memory)
        → ((todo : Point) → AllLead code names program before earlier.used later.used (λ v. act (stands code names program before todo v))
        (λ v. Goes (with_memory (memory_in program names middle v) (pop_many count (stands code names program before todo v)))))
        → IsWork
    works_dropped count is means memory leads = works_done (by_case answer is means) memory
      where
        by_case : (r : Result T Pause) → OnOk r (IsDropped count middle after) → OnOk r (MeansDropped count middle after) → OnOk r IsDone
        by_case (Err why) is means = tt
        by_case (Ok x) is means = record {
          stays = stays_on before middle after (written_stays before middle rest) (moved_stays _ middle after is);
          locals = dropped_locals program names.bases known count middle after is locals;
          goes = λ todo cells v fits.
              leads_on cells _ _ _ (act (stands code names program before todo v)) _ _ (leads todo cells v fits)
              (leads_same cells _ _ _ (ap (λ m. Goes (to_do todo m)) (sym (means code names program v
              ∙ ap (pop_many count) (written_means before middle rest program names code v)))));
        }
