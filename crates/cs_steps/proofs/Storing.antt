-- Stores to integer variables, in states with pointers to locals only: for the contracts of `locate_for_store`, `write` and `store`.
use Rattle.std.proofs.Common.{◌≡◌, ◌≢◌, ◌⊎◌, ℕ, ℤ, pos, Bool, true, false, true≢false, List, Option, None, Some, slice_get}
use Rattle.std.proofs.Common.{if◌then◌else◌}
use Rattle.std.proofs.Common.{Result, Ok, Err, IsErr, IsErrAnd, OnOk, IfErr, refl, sym, ap, ◌∙◌, subst}
use Rattle.std.specs.Prelude.{option_map}
use mathlib.Core.Path.{fun_ext}
use Rattle.cs_types.specs.Shape.{Shape}
use Rattle.cs_inputs.specs.declared.path.Path.{Path}
use Rattle.cs_ast.specs.declared.place.Place.{Place}
use Rattle.cs_ast.specs.TypedProgram.{TypedProgram}
use Rattle.cs_terms.specs.Term.{Valuation}
use Rattle.cs_constraints.specs.Constraints.{Fits}
use Rattle.cs_model.specs.declared.kind.Kind.{Kind}
use Rattle.cs_model.specs.declared.kind.Kind.TheVariants as kind
use Rattle.cs_checker.specs.declared.subject.Subject.TheVariants.{Written}
use Rattle.cs_events.specs.declared.input.InputKind.{InputKind}
use Rattle.cs_events.specs.Objects.{Object, Cell, PointerCell, same_object}
use Rattle.cs_events.specs.Touches.{Stores as StoreTouch}
use Rattle.cs_events.specs.Acts.{Act}
use Rattle.cs_meaning.specs.Access.{Access, direct, reach, writable, touches_then, write_operand}
use Rattle.cs_meaning.specs.Machine.{Operand, Nothing}
use Rattle.cs_meaning.specs.Memory.{Block, Memory, changed}
use Rattle.cs_cfg.specs.Working.{CodeState}
use Rattle.cs_regions.specs.declared.base.Base.{Base}
use Rattle.cs_regions.specs.declared.base.Base.TheVariants.{Local}
use Rattle.cs_regions.specs.Numbering.{IsNumbered}
use Rattle.cs_store.specs.declared.value.Value.{Value}
use Rattle.cs_store.specs.declared.value.Binding.TheVariants.{Direct}
use Rattle.cs_store.specs.Held.{held}
use Rattle.cs_state.specs.declared.state.State.{State}
use Rattle.cs_state.specs.declared.temporary.Temporary.{Temporary}
use Rattle.cs_state.specs.declared.temporary.Temporary.TheVariants as temporary
use Rattle.cs_state.specs.Cells.{object_of, operand_of, pointer_to}
use Rattle.cs_state.specs.Naming.{Naming}
use Rattle.cs_state.specs.ReadCells.{read_at}
use Rattle.cs_state.specs.Writes.{with_memory}
use Rattle.cs_progress.specs.declared.next.Next.{Next}
use Rattle.cs_progress.specs.declared.pause.Pause.{Pause}
use Rattle.cs_progress.specs.declared.pause.Pause.TheVariants as pause
use Rattle.cs_progress.specs.declared.progress.Progress.{Progress}
use Rattle.cs_progress.specs.Acting.{Leads, Gives, GetsThrough, CarriesOut, WaitsFor}
use Rattle.cs_progress.specs.Answering.{answers_left}
use Rattle.cs_cfg.specs.IntegerCode.{IsOfInteger}
use Rattle.cs_progress.specs.Locals.{AreIn, HasLocalsAlone, IsLocalOf}
use Rattle.cs_progress.proofs.Looks.{leads_same}
use Rattle.cs_progress.proofs.Composing.{leads_on, waits_on}
use Rattle.cs_progress.proofs.Carrying.{no_wait}
use Rattle.cs_operators.specs.Asking.{ChecksFor}
use Rattle.cs_operators.specs.Pointing.{cell_in}
use Rattle.cs_checker.specs.Faults.{is_faulty_for}
use Rattle.cs_cells.specs.InMemory.{memory_in}
use Rattle.cs_cells.proofs.WrittenLocals.{locals_bound, memory_bound}
use Rattle.cs_steps.specs.declared.access.Reached.{Reached}
use Rattle.cs_steps.specs.Reaching.{reaches, cell_reached}
use Rattle.cs_steps.specs.Storing.{reaches_for_store, store_part, IsWritten, Stores}
use Rattle.cs_steps.proofs.Loading.{touched}

-- a store that isn't one to a constant isn't checked
pub not_constant : (state : State) (at : Place) (constant : Bool) → constant ≡ false → ChecksFor state (Written constant) at (λ v act. act)
not_constant state at constant is v fits =
    subst (λ (b : Bool). ChecksFor state (Written b) at (λ w act. act)) (sym is)
    (λ w f. record { faulty = λ k holds act. no_fault w k holds; good = λ none act. refl }) v fits
  where
    no_fault : {A : Type 0} (w : Valuation) (k : Kind) → is_faulty_for k (Written false) w ≡ true → A
    no_fault w kind.ConstWrite holds = absurd (true≢false (sym holds))
    no_fault w other holds = absurd (true≢false (sym holds))

module _ (program : TypedProgram) (bases : List Base) (state : State) (at : Place) (cell : Valuation → Cell) where
  -- what follows after a location was reached
  abbrev pub to_store : (Cell → Act CodeState) → Cell → Act CodeState
  to_store onward place = direct at place (λ object n. writable program at object (onward (PointerCell object (pos n))))

  abbrev pub for_store : Valuation → (Cell → Act CodeState) → Act CodeState
  for_store v = reaches_for_store program at (cell v)

  -- a local of a frame may be written
  local_writable : (frame count : ℕ) (reached : Reached) → IsLocalOf bases frame count reached.base → (v : Valuation) (onward : Cell → Act CodeState)
      → to_store onward (cell_reached bases reached v) ≡ onward (cell_reached bases reached v)
  local_writable frame count reached local v onward =
      subst (λ (base : Option Base). to_store onward (pointer_to base (pos reached.offset)) ≡ onward (pointer_to base (pos reached.offset)))
      (sym local.named) refl

  module _ (frame count : ℕ) (reached : Reached) (local : IsLocalOf bases frame count reached.base) (earlier middle : ℕ)
      (located : Gives state earlier middle (λ v. reaches at (cell v)) (cell_reached bases reached)) where
    for_store_leads : (cells : Path → InputKind → Cell) (v : Valuation) → Fits v state.constraints → (onward : Cell → Act CodeState)
        → Leads cells (answers_left state earlier v) (answers_left state middle v) (for_store v onward) (onward (cell_reached bases reached v))
    for_store_leads cells v fits onward =
        leads_on cells _ _ _ (for_store v onward) (to_store onward (cell_reached bases reached v)) (onward (cell_reached bases reached v))
        (located cells v fits (to_store onward)) (leads_same cells _ _ _ (local_writable frame count reached local v onward))

    -- it was checked that it may be written
    pub for_store_through : (later : ℕ) → GetsThrough state middle later (λ v act. act)
        → Gives state earlier later for_store (cell_reached bases reached)
    for_store_through later through cells v fits onward =
        leads_on cells _ _ _ (for_store v onward) (onward (cell_reached bases reached v)) (onward (cell_reached bases reached v))
        (for_store_leads cells v fits onward) (through cells v fits (onward (cell_reached bases reached v)))

    pub for_store_checked : (first : Next) → ((act : Act CodeState) → WaitsFor bases state middle first (λ v. act))
        → (onward : Cell → Act CodeState) → WaitsFor bases state earlier first (λ v. for_store v onward)
    for_store_checked first waits onward cells v fits =
        waits_on cells _ _ (for_store v onward) (onward (cell_reached bases reached v)) bases state v first
        (for_store_leads cells v fits onward) (waits (onward (cell_reached bases reached v)) cells v fits)

  -- reaching it is waited for
  pub for_store_waits : (earlier : ℕ) (first : Next)
      → ((onward : Cell → Act CodeState) → WaitsFor bases state earlier first (λ v. reaches at (cell v) onward))
      → (onward : Cell → Act CodeState) → WaitsFor bases state earlier first (λ v. for_store v onward)
  for_store_waits earlier first waits onward = waits (to_store onward)

-- the identity changes nothing in memory
unchanged_memory : (object : Object) (memory : Memory) → memory ≡ changed (λ block. block) object memory
unchanged_memory object memory = fun_ext (λ other. at (same_object object other) (memory other))
  where
    at : (same : Bool) (found : Option Block) → found ≡ (if same then option_map (λ block. block) found else found)
    at true None = refl
    at true (Some block) = refl
    at false found = refl

module _ (program : TypedProgram) (names : Naming) (known : ℕ → Bool) (before : State) where
  -- nothing was written
  pub nothing_written : (after : State) (ty : Shape) (reached : Reached) (stored : Temporary) → stored ≡ temporary.Nothing → after ≡ before
      → HasLocalsAlone program names.bases known before → IsWritten program names known before after ty reached stored
  nothing_written after ty reached stored is same alone =
      subst (λ (s : State). IsWritten program names known before s ty reached stored) (sym same) (record {
        memory = λ region named v.
            unchanged_memory (object_of region) (memory_in program names before v)
            ∙ ap (λ (t : Temporary). changed (write_operand program ty reached.offset (operand_of names.bases before.blocks v t)) (object_of region)
            (memory_in program names before v)) (sym is);
        rest = refl;
        locals = alone;
      })

  -- a scalar was written
  pub scalar_written : (after : State) (ty : Shape) (reached : Reached) (stored : Temporary) (given : Value) → stored ≡ temporary.Scalar given
      → after ≡ with_memory after.store after.read before → held after.store reached.base reached.offset ≡ Direct given
      → ((b o : ℕ) → (b ≢ reached.base) ⊎ (o ≢ reached.offset) → held after.store b o ≡ held before.store b o)
      → read_at after.read reached.base reached.offset ≡ None
      → ((b o : ℕ) → (b ≢ reached.base) ⊎ (o ≢ reached.offset) → read_at after.read b o ≡ read_at before.read b o) → IsNumbered names.bases
      → HasLocalsAlone program names.bases known before → AreIn program names.bases known before.frame stored
      → IsWritten program names known before after ty reached stored
  scalar_written after ty reached stored given is rest here elsewhere gone others once alone inside =
      subst (λ (t : Temporary). AreIn program names.bases known before.frame t → IsWritten program names known before after ty reached t) (sym is)
      (λ within. record {
        memory = λ region named v.
            memory_bound before after rest program names known alone reached.base reached.offset given here elsewhere region once named v;
        rest = rest;
        locals = locals_bound before after rest program names known alone reached.base reached.offset given here elsewhere gone others within;
      }) inside

  -- a struct isn't
  pub no_struct : {A : Type 0} (stored : Temporary) (given : List Value) → stored ≡ temporary.Whole given
      → AreIn program names.bases known before.frame stored → A
  no_struct stored given is inside = absurd (subst (AreIn program names.bases known before.frame) is inside)

  module _ (at : Place) (access : Access) (integer : IsOfInteger access) (place : Value) (stored : Temporary) where
    abbrev part : Valuation → (Memory → Act CodeState) → Act CodeState
    part = store_part program names before at access place stored

    abbrev memory_after : Valuation → Object → ℕ → Memory
    memory_after v object offset =
        changed (write_operand program access.ty offset (operand_of names.bases before.blocks v stored)) object (memory_in program names before v)

    -- what follows after a location was reached
    abbrev object_stored : Valuation → (Memory → Act CodeState) → Object → ℕ → Act CodeState
    object_stored v onward object offset =
        touches_then (λ declaration. StoreTouch before.frame.number declaration at) access.local (onward (memory_after v object offset))

    abbrev arrived : Valuation → (Memory → Act CodeState) → Cell → Act CodeState
    arrived v onward cell = direct access.at cell (object_stored v onward)

    abbrev reaching : Valuation → (Cell → Act CodeState) → Act CodeState
    reaching v = reaches_for_store program access.at (cell_in names.bases before place v)

    -- a direct store begins with reaching the location
    store_is : (v : Valuation) (onward : Memory → Act CodeState) → part v onward ≡ reaching v (arrived v onward)
    store_is v onward =
        let cell = cell_in names.bases before place v in
        let next : Object → ℕ → Act CodeState = λ object offset. writable program access.at object (object_stored v onward object offset) in
        ap (λ b. if b then direct access.at cell next else reach program (memory_in program names before v) access.at access.ty cell next) integer.direct

    -- if reaching it is waited for, nothing was stored yet
    pub store_waits : (earlier : ℕ) (first : Next)
        → ((onward : Cell → Act CodeState) → WaitsFor names.bases before earlier first (λ v. reaching v onward))
        → (onward : Memory → Act CodeState) → WaitsFor names.bases before earlier first (λ v. part v onward)
    store_waits earlier first waits onward cells v fits =
        waits_on cells _ _ (part v onward) (reaching v (arrived v onward)) names.bases before v first
        (leads_same cells _ _ _ (store_is v onward)) (waits (arrived v onward) cells v fits)

    module _ (after : State) (frame count : ℕ) (reached : Reached) (local : IsLocalOf names.bases frame count reached.base) (earlier later : ℕ)
        (located : Gives before earlier later reaching (cell_reached names.bases reached))
        (written : IsWritten program names known before after access.ty reached stored) where
      arrived_is : (v : Valuation) (onward : Memory → Act CodeState)
          → arrived v onward (cell_reached names.bases reached v)
          ≡ touches_then (λ declaration. StoreTouch before.frame.number declaration at) access.local (onward (memory_in program names after v))
      arrived_is v onward =
          ap (λ (base : Option Base). arrived v onward (pointer_to base (pos reached.offset))) local.named
          ∙ ap (λ (memory : Memory). touches_then (λ declaration. StoreTouch before.frame.number declaration at) access.local (onward memory))
          (sym (written.memory (Local frame local.declaration) local.named v))

      -- the location that was reached is written
      pub stored_through : Gives before earlier later part (λ v. memory_in program names after v)
      stored_through cells v fits onward =
          let next = onward (memory_in program names after v) in
          let touch = touches_then (λ declaration. StoreTouch before.frame.number declaration at) access.local next in
          leads_on cells _ _ _ (part v onward) touch next
          (leads_on cells _ _ _ (part v onward) (arrived v onward (cell_reached names.bases reached v)) touch
          (leads_on cells _ _ _ (part v onward) (reaching v (arrived v onward)) (arrived v onward (cell_reached names.bases reached v))
          (leads_same cells _ _ _ (store_is v onward)) (located cells v fits (arrived v onward)))
          (leads_same cells _ _ _ (arrived_is v onward)))
          (touched cells _ (λ declaration. StoreTouch before.frame.number declaration at) access.local next)

  module _ (after : State) (earlier later : Progress) {T : Type 0} (answer : Result T Pause)
      (part : Valuation → (Memory → Act CodeState) → Act CodeState) where
    -- an error that is returned is waited for, and has changed nothing
    pub store_handed : (why : Pause) → IsErr answer × IsErrAnd answer (λ e. e ≡ why)
        → (why ≡ pause.Waits → (after ≡ before)
        × ((onward : Memory → Act CodeState) → WaitsFor names.bases before earlier.used later.first (λ v. part v onward)))
        → Stores program names known before after earlier later answer part
    store_handed why is waits = by_case answer is
      where
        by_case : (r : Result T Pause) → IsErr r × IsErrAnd r (λ e. e ≡ why) → Stores program names known before after earlier later r part
        by_case (Ok made) is = absurd (true≢false (sym is.0))
        by_case (Err e) is = record {
          act = record { through = tt; waits = λ so. (waits (sym is.1 ∙ so)).1 };
          rest = tt;
          locals = tt;
          unchanged = λ so. (waits (sym is.1 ∙ so)).0;
        }

    -- what was written is stored; a write doesn't wait
    pub store_done : (ty : Shape) (reached : Reached) (stored : Temporary)
        → OnOk answer (IsWritten program names known before after ty reached stored) → IfErr answer (λ why. why ≡ pause.Memory)
        → (IsWritten program names known before after ty reached stored
        → Gives before earlier.used later.used part (λ v. memory_in program names after v))
        → Stores program names known before after earlier later answer part
    store_done ty reached stored written memory gives = by_case answer written memory
      where
        by_case : (r : Result T Pause) → OnOk r (IsWritten program names known before after ty reached stored) → IfErr r (λ why. why ≡ pause.Memory)
            → Stores program names known before after earlier later r part
        by_case (Ok done) written memory = record {
          act = record { through = gives written; waits = tt };
          rest = written.rest;
          locals = written.locals;
          unchanged = tt;
        }
        by_case (Err why) written memory = record {
          act = record { through = tt; waits = no_wait why memory };
          rest = tt;
          locals = tt;
          unchanged = no_wait why memory;
        }
