-- Operations that store: for the contracts of `assign`, `update`, `initialize` and `clear`.
use Rattle.std.proofs.Common.{◌≡◌, ◌≢◌, ℕ, zero, suc, [], ◌∷◌, Contains, refl, arith, rules, Bool, None, Some, slice_get, Result, Ok, Err, OnOk}
use Rattle.std.proofs.Common.{IfErr, sym, ap, ◌∙◌}
use Rattle.cs_types.specs.Shape.{Shape}
use Rattle.cs_inputs.specs.declared.path.Path.{Path}
use Rattle.cs_ast.specs.declared.place.Place.{Place}
use Rattle.cs_ast.specs.TypedProgram.{TypedProgram}
use Rattle.cs_terms.specs.Term.{Valuation}
use Rattle.cs_constraints.specs.Constraints.{Fits}
use Rattle.cs_events.specs.declared.input.InputKind.{InputKind}
use Rattle.cs_events.specs.declared.outcome.RunBudgets.{RunBudgets}
use Rattle.cs_events.specs.Objects.{Cell, LocalObject}
use Rattle.cs_events.specs.Touches.{Stores as StoreTouch, Clears}
use Rattle.cs_events.specs.Acts.{Act, Goes}
use Rattle.cs_meaning.specs.Access.{Access, store_object, touches_then, write_operand}
use Rattle.cs_meaning.specs.Machine.{push, pop_many, to_do, with_memory, operand_at}
use Rattle.cs_meaning.specs.Memory.{Memory, changed}
use Rattle.cs_cfg.specs.Graph.{Point, Code, Store, StoreLocal, Clear}
use Rattle.cs_cfg.specs.Working.{CodeState, do_work, if_local}
use Rattle.cs_regions.specs.declared.base.Base.TheVariants.{Local}
use Rattle.cs_regions.specs.Numbering.{IsNumbered}
use Rattle.cs_store.specs.declared.value.Value.{Value}
use Rattle.cs_store.specs.declared.value.Fill.TheVariants.{Unset}
use Rattle.cs_store.specs.declared.value.Binding.TheVariants.{Fill}
use Rattle.cs_store.specs.Held.{held}
use Rattle.cs_state.specs.declared.state.State.{State}
use Rattle.cs_state.specs.declared.temporary.Temporary.{Temporary}
use Rattle.cs_state.specs.Cells.{operand_of}
use Rattle.cs_state.specs.Meaning.{meaning}
use Rattle.cs_state.specs.Naming.{Naming}
use Rattle.cs_state.specs.ReadCells.{read_at}
use Rattle.cs_state.specs.Writes as writes
use Rattle.cs_progress.specs.declared.next.Next.{Next}
use Rattle.cs_progress.specs.declared.pause.Pause.{Pause}
use Rattle.cs_progress.specs.declared.pause.Pause.TheVariants as pause
use Rattle.cs_progress.specs.declared.progress.Progress.{Progress}
use Rattle.cs_progress.specs.Acting.{Gives, Leads, WaitsFor}
use Rattle.cs_progress.specs.Answering.{answers_left}
use Rattle.cs_progress.specs.Locals.{HasLocalsAlone}
use Rattle.cs_progress.specs.Operands.{IsOperandAt, IsCellAt, IsDropped, MeansDropped}
use Rattle.cs_progress.specs.Stepping.{Works}
use Rattle.cs_progress.proofs.Looks.{leads_same}
use Rattle.cs_progress.proofs.Composing.{leads_on, waits_on}
use Rattle.cs_operators.proofs.Computed.{stands, AllLead}
use Rattle.cs_cells.specs.InMemory.{memory_in}
use Rattle.cs_cells.proofs.WrittenLocals.{written_stays, written_means, locals_unbound, memory_unbound}
use Rattle.cs_steps.specs.declared.access.Reached.{Reached}
use Rattle.cs_steps.specs.Storing.{store_part, IsWritten}
use Rattle.cs_steps.proofs.Loading.{touched}
use Rattle.cs_steps.proofs.Working.{IsDone, works_dropped, works_done}

module _ (code : Code) (names : Naming) (program : TypedProgram) (before : State) where
  -- after a store, one temporary replaces some
  abbrev pub stored_left : ℕ → Temporary → Point → Valuation → Memory → Act CodeState
  stored_left count left todo v memory =
      Goes (push (operand_of names.bases before.blocks v left) (with_memory memory (pop_many count (stands code names program before todo v))))

  -- an act that leads to a store, and to what follows it
  module _ (act : CodeState → Act CodeState) (part : Valuation → (Memory → Act CodeState) → Act CodeState) (count : ℕ) (left : Temporary)
      (earlier middle : ℕ)
      (leads : (todo : Point) → AllLead code names program before earlier middle (λ v. act (stands code names program before todo v))
      (λ v. part v (stored_left count left todo v))) where
    pub store_leads : (later : ℕ) (given : Valuation → Memory) → Gives before middle later part given → (todo : Point)
        → AllLead code names program before earlier later (λ v. act (stands code names program before todo v))
        (λ v. stored_left count left todo v (given v))
    store_leads later given gives todo cells v fits =
        leads_on cells _ _ _ (act (stands code names program before todo v)) (part v (stored_left count left todo v)) (stored_left count left todo v (given v))
        (leads todo cells v fits) (gives cells v fits (stored_left count left todo v))

    pub store_stands : (first : Next) → ((onward : Memory → Act CodeState) → WaitsFor names.bases before middle first (λ v. part v onward))
        → (todo : Point) → WaitsFor names.bases before earlier first (λ v. act (stands code names program before todo v))
    store_stands first waits todo cells v fits =
        waits_on cells _ _ (act (stands code names program before todo v)) (part v (stored_left count left todo v)) names.bases before v first
        (leads todo cells v fits) (waits (stored_left count left todo v) cells v fits)

  -- an assignment is a store
  pub assign_leads : (budgets : RunBudgets) (at : Place) (access : Access) (place : Value) (stored : Temporary) → IsCellAt before 1 place
      → IsOperandAt before 0 stored → (used : ℕ) (todo : Point)
      → AllLead code names program before used used (λ v. do_work code program budgets at (Store access) (stands code names program before todo v))
      (λ v. store_part program names before at access place stored v (stored_left 2 stored todo v))
  assign_leads budgets at access place stored place_is stored_is used todo cells v fits =
      leads_same cells _ _ _ (λ i.
      store_object program (memory_in program names before v) before.frame.number at access (place_is code names program v i)
      (stored_is code names program v i)
      (λ memory. Goes (push (stored_is code names program v i) (with_memory memory (pop_many 2 (stands code names program before todo v))))))

  module _ (known : ℕ → Bool) (once : IsNumbered names.bases) (budgets : RunBudgets) (at : Place) (progress : Progress) (declaration : ℕ)
      (base : ℕ) (named : slice_get names.bases base ≡ Some (Local before.frame.number declaration)) (scalar : Bool) (middle : State) where
    -- an initialization is a store too, after which the value is popped
    pub initialize_works : (offset : ℕ) (ty : Shape) (stored : Temporary) → IsOperandAt before 0 stored
        → IsWritten program names known before middle ty (record { base = base; offset = offset }) stored
        → (after : State) {T : Type 0} (answer : Result T Pause) → OnOk answer (IsDropped 1 middle after) → OnOk answer (MeansDropped 1 middle after)
        → IfErr answer (λ why. why ≡ pause.Memory)
        → Works code names program known before after progress progress answer (do_work code program budgets at (StoreLocal declaration offset ty scalar))
    initialize_works offset ty stored stored_is written after answer is means memory =
        works_dropped code names program known before after progress progress answer act middle written.rest written.locals 1 is means memory
        (λ todo cells v fits.
        let m = stands code names program before todo v in
        let touch = λ (local : ℕ). StoreTouch before.frame.number local at in
        let next : Act CodeState = Goes (with_memory (memory_in program names middle v) (pop_many 1 m)) in
        leads_on cells _ _ _ (act m) (touches_then touch (if_local scalar declaration) next) next
        (leads_same cells _ (act m) _ (λ i. touches_then touch (if_local scalar declaration) (Goes (with_memory (same v i) (pop_many 1 m)))))
        (touched cells _ touch (if_local scalar declaration) next))
      where
        act : CodeState → Act CodeState
        act = do_work code program budgets at (StoreLocal declaration offset ty scalar)

        same : (v : Valuation) → changed (write_operand program ty offset (operand_at (meaning code names program before v) 0))
            (LocalObject before.frame.number declaration) (memory_in program names before v) ≡ memory_in program names middle v
        same v =
            ap (λ operand. changed (write_operand program ty offset operand) (LocalObject before.frame.number declaration) (memory_in program names before v))
            (stored_is code names program v)
            ∙ sym (written.memory (Local before.frame.number declaration) named v)

    -- a local that becomes unset
    pub clear_works : HasLocalsAlone program names.bases known before → middle ≡ writes.with_memory middle.store middle.read before
        → ((o : ℕ) → held middle.store base o ≡ Fill Unset) → ((b o : ℕ) → b ≢ base → held middle.store b o ≡ held before.store b o)
        → ((o : ℕ) → read_at middle.read base o ≡ None) → ((b o : ℕ) → b ≢ base → read_at middle.read b o ≡ read_at before.read b o)
        → {T : Type 0} (answer : Result T Pause) → IfErr answer (λ why. why ≡ pause.Memory)
        → Works code names program known before middle progress progress answer (do_work code program budgets at (Clear declaration scalar))
    clear_works alone rest none elsewhere gone others {T} answer memory =
        works_done code names program known before middle progress progress answer act (done answer) memory
      where
        act : CodeState → Act CodeState
        act = do_work code program budgets at (Clear declaration scalar)

        it : IsDone code names program known before middle progress progress answer act
        it = record {
          stays = written_stays before middle rest;
          locals = locals_unbound before middle rest program names known alone base none elsewhere gone others;
          goes = λ todo cells v fits.
              let m = stands code names program before todo v in
              let touch = λ (local : ℕ). Clears before.frame.number local at in
              let next : Act CodeState = Goes (with_memory (memory_in program names middle v) m) in
              leads_on cells _ _ _ (act m) next _
              (leads_on cells _ _ _ (act m) (touches_then touch (if_local scalar declaration) next) next
              (leads_same cells _ (act m) _ (λ i.
              touches_then touch (if_local scalar declaration)
              (Goes (with_memory (sym (memory_unbound before middle rest program names known alone base none elsewhere before.frame.number declaration once
              named v) i) m))))
              (touched cells _ touch (if_local scalar declaration) next))
              (leads_same cells _ next _ (ap (λ n. Goes (to_do todo n)) (sym (written_means before middle rest program names code v))));
        }

        done : (r : Result T Pause) → OnOk r (IsDone code names program known before middle progress progress answer act)
        done (Ok x) = it
        done (Err why) = tt

-- a list of one number contains only this one
pub is_listed : (base : ℕ) → Contains (base ∷ []) base
is_listed base = (0, search rules, refl)

pub not_listed : (base b : ℕ) → b ≢ base → Contains (base ∷ []) b → ⊥
not_listed base b differs (zero, within, at) = differs (sym at)
not_listed base b differs (suc n, within, at) = absurd (omega (arith, within))
