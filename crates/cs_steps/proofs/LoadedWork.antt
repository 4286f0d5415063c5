-- All of an operation that loads: for the contracts of `load_in_place` and `fetch_number`.
use Rattle.std.proofs.Common.{◌≡◌, ℕ, Bool, Result, Ok, Err, OnOk, IfErr, refl, sym, subst}
use Rattle.cs_types.specs.declared.data_model.DataModel.{DataModel}
use Rattle.cs_types.specs.declared.int_type.IntType.{IntType}
use Rattle.cs_types.specs.Shape.{Shape}
use Rattle.cs_ast.specs.declared.place.Place.{Place}
use Rattle.cs_ast.specs.TypedProgram.{TypedProgram}
use Rattle.cs_terms.specs.Term.{Valuation}
use Rattle.cs_events.specs.Acts.{Act, Goes}
use Rattle.cs_meaning.specs.Machine.{push, pop_many, with_memory}
use Rattle.cs_cfg.specs.Graph.{Point, Code}
use Rattle.cs_cfg.specs.Working.{CodeState}
use Rattle.cs_state.specs.declared.state.State.{State}
use Rattle.cs_state.specs.declared.temporary.Temporary.{Temporary}
use Rattle.cs_state.specs.Cells.{operand_of}
use Rattle.cs_state.specs.Naming.{Naming}
use Rattle.cs_state.specs.Writes as writes
use Rattle.cs_progress.specs.declared.pause.Pause.{Pause}
use Rattle.cs_progress.specs.declared.pause.Pause.TheVariants as pause
use Rattle.cs_progress.specs.declared.progress.Progress.{Progress}
use Rattle.cs_progress.specs.Locals.{AreIn, HasLocalsAlone}
use Rattle.cs_progress.specs.Operands.{IsReplaced, MeansReplaced}
use Rattle.cs_progress.specs.Stepping.{StaysInFrame, KeepsLocals, WaitsUnchanged, Works}
use Rattle.cs_progress.proofs.Composing.{leads_on, waits_on}
use Rattle.cs_operators.proofs.Computed.{stands, AllLead}
use Rattle.cs_cells.specs.InMemory.{memory_in}
use Rattle.cs_steps.specs.Fetching.{converts_beside, Fetches}
use Rattle.cs_steps.proofs.Working.{works_replaced}

-- the number of what was loaded is converted, in a state
abbrev pub converts_loaded : Naming → DataModel → Place → Shape → IntType → Temporary → State → Valuation → CodeState → Act CodeState
converts_loaded names model at from to loaded state v = converts_beside model at from to (operand_of names.bases state.blocks v loaded)

module _ (code : Code) (names : Naming) (program : TypedProgram) (known : ℕ → Bool) (before : State)
    (alone : HasLocalsAlone program names.bases known before) (middle : State) (same : middle ≡ before) (after : State) (earlier later : Progress)
    {T : Type 0} (answer : Result T Pause) (act : CodeState → Act CodeState) where
  -- what was loaded replaces the address
  pub loaded_works : (loaded : Temporary) → AreIn program names.bases known before.frame loaded
      → OnOk answer (IsReplaced 1 loaded middle after) → OnOk answer (MeansReplaced 1 loaded middle after) → IfErr answer (λ why. why ≡ pause.Memory)
      → ((todo : Point) → AllLead code names program before earlier.used later.used (λ v. act (stands code names program before todo v))
      (λ v. Goes (push (operand_of names.bases before.blocks v loaded) (with_memory (memory_in program names before v)
      (pop_many 1 (stands code names program before todo v))))))
      → Works code names program known before after earlier later answer act
  loaded_works loaded inside left means memory leads =
      works_replaced code names program known before after earlier later answer act middle
      (subst (λ (s : State). s ≡ writes.with_memory s.store s.read before) (sym same) refl)
      (subst (HasLocalsAlone program names.bases known) (sym same) alone) 1 loaded inside left means memory
      (λ todo. subst (λ (s : State). AllLead code names program before earlier.used later.used (λ v. act (stands code names program before todo v))
      (λ v. Goes (push (operand_of names.bases before.blocks v loaded) (with_memory (memory_in program names s v)
      (pop_many 1 (stands code names program before todo v)))))) (sym same) (leads todo))

  -- what was loaded is used further, in the same state
  pub fetch_works : (between : Progress) (rest : State → Valuation → CodeState → Act CodeState)
      → Fetches code names program middle after between later answer (rest middle)
      → OnOk answer (StaysInFrame middle after) → OnOk answer (KeepsLocals program names.bases known middle after) → WaitsUnchanged middle after answer
      → ((todo : Point) → AllLead code names program before earlier.used between.used (λ v. act (stands code names program before todo v))
      (λ v. rest before v (stands code names program before todo v)))
      → Works code names program known before after earlier later answer act
  fetch_works between rest fetches stays keeps unchanged leads =
      by_case answer
      (subst (λ (s : State). Fetches code names program s after between later answer (rest s)) same fetches)
      (subst (λ (s : State). OnOk answer (StaysInFrame s after)) same stays)
      (subst (λ (s : State). OnOk answer (KeepsLocals program names.bases known s after)) same keeps)
      (subst (λ (s : State). WaitsUnchanged s after answer) same unchanged)
    where
      by_case : (r : Result T Pause) → Fetches code names program before after between later r (rest before) → OnOk r (StaysInFrame before after)
          → OnOk r (KeepsLocals program names.bases known before after) → WaitsUnchanged before after r
          → Works code names program known before after earlier later r act
      by_case (Ok done) fetches stays keeps unchanged = record {
        computes = record {
          done = λ todo cells v fits.
              leads_on cells _ _ _ (act (stands code names program before todo v)) (rest before v (stands code names program before todo v)) _
              (leads todo cells v fits) (fetches.done todo cells v fits);
          waits = tt;
        };
        stays = stays;
        locals = keeps alone;
        unchanged = tt;
      }
      by_case (Err why) fetches stays keeps unchanged = record {
        computes = record {
          done = tt;
          waits = λ waits todo cells v fits.
              waits_on cells _ _ (act (stands code names program before todo v)) (rest before v (stands code names program before todo v))
              names.bases before v later.first (leads todo cells v fits) (fetches.waits waits todo cells v fits);
        };
        stays = tt;
        locals = tt;
        unchanged = unchanged;
      }
