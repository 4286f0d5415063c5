-- Loads from integer variables, in states with pointers to locals only: for the contracts of `load` and `load_scalar`.
use Rattle.std.proofs.Common.{◌≡◌, ℕ, ℤ, pos, Bool, List, Option, None, Some, slice_get, if◌then◌else◌, true, Result, Ok, Err, IsErr, IsErrAnd}
use Rattle.std.proofs.Common.{true≢false}
use Rattle.std.proofs.Common.{refl, sym, ap, ◌∙◌, subst}
use Rattle.cs_types.specs.declared.int_type.IntType.{IntType}
use Rattle.cs_types.specs.Shape.{integer}
use Rattle.cs_inputs.specs.declared.path.Path.{Path}
use Rattle.cs_ast.specs.declared.place.Place.{Place}
use Rattle.cs_ast.specs.TypedProgram.{TypedProgram}
use Rattle.cs_terms.specs.Term.{Valuation}
use Rattle.cs_checker.specs.declared.subject.Subject.TheVariants.{Cell as OfCell}
use Rattle.cs_events.specs.declared.input.InputKind.{InputKind}
use Rattle.cs_events.specs.Objects.{Object, Cell}
use Rattle.cs_events.specs.Touches.{Touch, Loads as LoadTouch}
use Rattle.cs_events.specs.Acts.{Act}
use Rattle.cs_event_runs.specs.Left.{left_of}
use Rattle.cs_meaning.specs.Access.{Access, direct, reach, read, receive, set_then, touches_then, value_at}
use Rattle.cs_meaning.specs.Machine.{Operand, Scalar}
use Rattle.cs_meaning.specs.Memory.{Memory, Holds}
use Rattle.cs_cfg.specs.Working.{CodeState}
use Rattle.cs_regions.specs.declared.base.Base.{Base}
use Rattle.cs_regions.specs.Numbering.{IsNumbered}
use Rattle.cs_store.specs.declared.value.Value.{Value}
use Rattle.cs_store.specs.declared.value.Value.TheVariants as value
use Rattle.cs_store.specs.declared.value.Binding.{Binding as Held}
use Rattle.cs_store.specs.declared.value.Binding.TheVariants as found
use Rattle.cs_store.specs.Held.{held}
use Rattle.cs_state.specs.declared.state.State.{State}
use Rattle.cs_state.specs.declared.temporary.Temporary.{Temporary}
use Rattle.cs_state.specs.declared.temporary.Temporary.TheVariants as temporary
use Rattle.cs_state.specs.Cells.{cell_of, object_of, pointer_to}
use Rattle.cs_state.specs.Naming.{Naming}
use Rattle.cs_progress.specs.declared.next.Next.{Next}
use Rattle.cs_progress.specs.declared.pause.Pause.{Pause}
use Rattle.cs_progress.specs.declared.pause.Pause.TheVariants as pause
use Rattle.cs_progress.specs.declared.progress.Progress.{Progress}
use Rattle.cs_progress.specs.Acting.{UsesAll, Leads, Gives, GetsThrough, Passes, WaitsFor}
use Rattle.cs_cfg.specs.IntegerCode.{IsOfInteger, count_of_locals}
use Rattle.cs_progress.specs.Locals.{IsLocalOf, IsIn, MayBeIn, HasLocalsAlone, value_held}
use Rattle.cs_progress.proofs.Looks.{leads_same}
use Rattle.cs_progress.proofs.Composing.{leads_on, waits_on}
use Rattle.cs_progress.proofs.Carrying.{handed, carries_on, LeadsTo}
use Rattle.cs_progress.proofs.KeptLocals.{named_local}
use Rattle.cs_operators.specs.Asking.{ChecksFor}
use Rattle.cs_operators.specs.Pointing.{cell_in}
use Rattle.cs_operators.proofs.Checks.{set_check}
use Rattle.cs_operators.proofs.Using.{is_unset, never_set}
use Rattle.cs_cells.specs.InMemory.{memory_in}
use Rattle.cs_cells.proofs.LocalMemory.{local_holds}
use Rattle.cs_steps.specs.declared.access.Reached.{Reached}
use Rattle.cs_steps.specs.Reaching.{reaches, cell_reached}
use Rattle.cs_steps.specs.Loading.{Part, Loads, load_part, scalar_part, loaded_in}

-- a touch isn't an event
pub touched : (cells : Path → InputKind → Cell) (answers : List ℤ) (touch : ℕ → Touch) (local : Option ℕ) (act : Act CodeState)
    → Leads cells answers answers (touches_then touch local act) act
unfolding left_of UsesAll
touched cells answers touch None act uses = (refl, uses)
touched cells answers touch (Some declaration) act uses = (refl, uses)

-- a cell of the current frame's locals may be in the frame, whether it was bound or never set
held_inside : (it : Held) (P : Value → Type 0) → ((bound : Value) → it ≡ found.Direct bound → P bound) → P value.Unset → P (value_held it)
held_inside (found.Direct bound) P stored unset = stored bound refl
held_inside (found.Fill fill) P stored unset = unset

pub held_may_be_in : (state : State) (base offset : ℕ) → MayBeIn state (value_held (held state.store base offset))
held_may_be_in state base offset program bases known have =
    held_inside (held state.store base offset) (IsIn program bases known state.frame) (have.stored base offset) tt

module _ (program : TypedProgram) (names : Naming) (known : ℕ → Bool) (before : State) (alone : HasLocalsAlone program names.bases known before) where
  abbrev memory : Valuation → Memory
  memory v = memory_in program names before v

  -- the scalar at a location is what the store holds there, if it was set
  pub scalar_is : IsNumbered names.bases → (at : Place) (reached : Reached)
      → IsLocalOf names.bases before.frame.number (count_of_locals program before.frame.spot.function) reached.base
      → (given : Value) → given ≡ value_held (held before.store reached.base reached.offset) → (v : Valuation)
      → (onward : Memory × Operand → Act CodeState)
      → scalar_part program names before at reached v onward
      ≡ set_then at (cell_in names.bases before given v) (onward (loaded_in program names before (temporary.Scalar given) v))
  scalar_is once at reached local given is v onward =
      ap (λ base. direct at (pointer_to base (pos reached.offset)) scalar) local.named
      ∙ ap (λ what. receive program (memory v) what further)
      (local_holds program names before v once reached.base local.declaration local.named local.early reached.offset (alone.filled reached.base reached.offset)
      ∙ ap (λ (it : Value). Holds (cell_of names.bases before.blocks v it)) (sym is))
    where
      further : Memory → Cell → Act CodeState
      further memory cell = set_then at cell (onward (memory, Scalar cell))

      scalar : Object → ℕ → Act CodeState
      scalar object offset = read program (memory v) object offset further

  module _ (access : Access) (v : Valuation) (onward : Memory × Operand → Act CodeState) where
    abbrev value_loaded : Object → ℕ → Act CodeState
    value_loaded object offset = value_at program (memory v) access.at access.ty object offset (λ memory operand. onward (memory, operand))

    abbrev object_loaded : Object → ℕ → Act CodeState
    object_loaded object offset =
        touches_then (λ declaration. LoadTouch before.frame.number declaration access.at) access.local (value_loaded object offset)

    -- what follows after a location was reached
    abbrev arrived : Cell → Act CodeState
    arrived cell = direct access.at cell object_loaded

    -- a direct load begins with reaching the location
    load_is : (place : Value) → access.direct ≡ true
        → load_part program names before access place v onward ≡ reaches access.at (cell_in names.bases before place v) arrived
    load_is place is =
        let cell = cell_in names.bases before place v in
        ap (λ b. if b then direct access.at cell object_loaded else reach program (memory v) access.at access.ty cell object_loaded) is

    -- and then reads a scalar
    scalar_leads : (ty : IntType) → access.ty ≡ integer ty → (cells : Path → InputKind → Cell) (answers : List ℤ) (reached : Reached)
        → Leads cells answers answers (arrived (cell_reached names.bases reached v)) (scalar_part program names before access.at reached v onward)
    scalar_leads ty is cells answers reached = by (slice_get names.bases reached.base)
      where
        scalar_read : Object → ℕ → Act CodeState
        scalar_read object offset = read program (memory v) object offset (λ memory cell. set_then access.at cell (onward (memory, Scalar cell)))

        by : (base : Option Base) → Leads cells answers answers (arrived (pointer_to base (pos reached.offset)))
            (direct access.at (pointer_to base (pos reached.offset)) scalar_read)
        by None = leads_same cells answers _ _ refl
        by (Some base) =
            leads_on cells _ _ _ (object_loaded (object_of base) reached.offset) (value_loaded (object_of base) reached.offset)
            (scalar_read (object_of base) reached.offset)
            (touched cells answers (λ declaration. LoadTouch before.frame.number declaration access.at) access.local
            (value_loaded (object_of base) reached.offset))
            (leads_same cells answers _ _
            (ap (λ shape. value_at program (memory v) access.at shape (object_of base) reached.offset (λ memory operand. onward (memory, operand))) is))

  module _ (access : Access) (place : Value) (integer : IsOfInteger access) where
    -- a location that was reached is read
    pub load_leads : (reached : Reached) (earlier later : ℕ)
        → Gives before earlier later (λ v. reaches access.at (cell_in names.bases before place v)) (cell_reached names.bases reached)
        → LeadsTo before earlier later (load_part program names before access place) (scalar_part program names before access.at reached)
    load_leads reached earlier later located cells v fits onward =
        let after = arrived access v onward in
        leads_on cells _ _ _ (load_part program names before access place v onward) (after (cell_reached names.bases reached v)) _
        (leads_on cells _ _ _ (load_part program names before access place v onward) (reaches access.at (cell_in names.bases before place v) after) _
        (leads_same cells _ _ _ (load_is access v onward place integer.direct)) (located cells v fits after))
        (scalar_leads access v onward integer.ty integer.of cells _ reached)

    -- if reaching it is waited for, nothing was read yet
    pub load_waits : (earlier : ℕ) (first : Next)
        → ((onward : Cell → Act CodeState)
        → WaitsFor names.bases before earlier first (λ v. reaches access.at (cell_in names.bases before place v) onward))
        → (onward : Memory × Operand → Act CodeState)
        → WaitsFor names.bases before earlier first (λ v. load_part program names before access place v onward)
    load_waits earlier first waits onward cells v fits =
        let after = arrived access v onward in
        waits_on cells _ _ (load_part program names before access place v onward) (reaches access.at (cell_in names.bases before place v) after)
        names.bases before v first (leads_same cells _ _ _ (load_is access v onward place integer.direct)) (waits after cells v fits)

    -- what the location holds is loaded
    pub load_done : (reached : Reached) (earlier middle later : Progress)
        → Gives before earlier.used middle.used (λ v. reaches access.at (cell_in names.bases before place v)) (cell_reached names.bases reached)
        → (after : State) (answer : Result Temporary Pause)
        → Loads program names before after middle later answer (scalar_part program names before access.at reached)
        → Loads program names before after earlier later answer (load_part program names before access place)
    load_done reached earlier middle later located after answer loads = record {
      act = carries_on before names.bases earlier later answer middle (load_part program names before access place)
          (scalar_part program names before access.at reached) (loaded_in program names before)
          (load_leads reached earlier.used middle.used located) loads.act;
      inside = loads.inside;
      same = loads.same;
      unchanged = loads.unchanged;
    }

  module _ (after : State) (earlier later : Progress) (answer : Result Temporary Pause) where
    -- an error that is returned is waited for, and has changed nothing
    pub load_handed : (part : Part) (why : Pause) → IsErr answer × IsErrAnd answer (λ e. e ≡ why)
        → (why ≡ pause.Waits → (after ≡ before)
        × ((onward : Memory × Operand → Act CodeState) → WaitsFor names.bases before earlier.used later.first (λ v. part v onward)))
        → Loads program names before after earlier later answer part
    load_handed part why is waits = by_case answer is
      where
        by_case : (r : Result Temporary Pause) → IsErr r × IsErrAnd r (λ e. e ≡ why) → Loads program names before after earlier later r part
        by_case (Ok made) is = absurd (true≢false (sym is.0))
        by_case (Err e) is = record {
          act = record { through = tt; waits = λ so. (waits (sym is.1 ∙ so)).1 };
          inside = tt;
          same = tt;
          unchanged = λ so. (waits (sym is.1 ∙ so)).0;
        }

  module _ (once : IsNumbered names.bases) (at : Place) (reached : Reached)
      (local : IsLocalOf names.bases before.frame.number (count_of_locals program before.frame.spot.function) reached.base)
      (given : Value) (is : given ≡ value_held (held before.store reached.base reached.offset)) where
    -- the check that the scalar was set
    abbrev pub set_part : Valuation → Act CodeState → Act CodeState
    set_part v act = set_then at (cell_in names.bases before given v) act

    pub set_checked : (unset : Bool) → unset ≡ is_unset given → ChecksFor before (OfCell unset) at set_part
    set_checked unset same v fits =
        set_check at v unset (cell_in names.bases before given v)
        (never_set names.bases before.blocks v given (named_local names.bases known before.frame.number _ given inside) ∙ sym same)
      where
        inside : IsIn program names.bases known before.frame given
        inside = subst (IsIn program names.bases known before.frame) (sym is)
            (held_may_be_in before reached.base reached.offset program names.bases known alone)

    pub scalar_through : (earlier later : ℕ) → GetsThrough before earlier later set_part
        → Gives before earlier later (scalar_part program names before at reached) (loaded_in program names before (temporary.Scalar given))
    scalar_through earlier later through cells v fits onward =
        let next = onward (loaded_in program names before (temporary.Scalar given) v) in
        leads_on cells _ _ _ (scalar_part program names before at reached v onward) (set_part v next) next
        (leads_same cells _ _ _ (scalar_is once at reached local given is v onward)) (through cells v fits next)

    pub scalar_waits : (earlier : ℕ) (first : Next)
        → ((act : Act CodeState) → WaitsFor names.bases before earlier first (λ v. set_part v act))
        → (onward : Memory × Operand → Act CodeState)
        → WaitsFor names.bases before earlier first (λ v. scalar_part program names before at reached v onward)
    scalar_waits earlier first waits onward cells v fits =
        let next = onward (loaded_in program names before (temporary.Scalar given) v) in
        waits_on cells _ _ (scalar_part program names before at reached v onward) (set_part v next) names.bases before v first
        (leads_same cells _ _ _ (scalar_is once at reached local given is v onward)) (waits next cells v fits)

    -- the read has changed nothing before the check
    module _ (middle : State) (same : middle ≡ before) where
      pub middle_checked : (unset : Bool) → unset ≡ is_unset given → ChecksFor middle (OfCell unset) at set_part
      middle_checked unset unset_is = subst (λ (s : State). ChecksFor s (OfCell unset) at set_part) (sym same) (set_checked unset unset_is)

      module _ {T : Type 0} (earlier later : Progress) where
        kept : (checked : Result T Pause) → Passes names.bases middle earlier later checked set_part
            → Passes names.bases before earlier later checked set_part
        kept checked passes = subst (λ (s : State). Passes names.bases s earlier later checked set_part) same passes

        -- a fault comes first
        pub check_waits : (answer : Result Temporary Pause) (why : Pause) → IsErr answer × IsErrAnd answer (λ e. e ≡ why)
            → Passes {T = T} names.bases middle earlier later (Err why) set_part
            → Loads program names before middle earlier later answer (scalar_part program names before at reached)
        check_waits answer why is passes =
            load_handed middle earlier later answer (scalar_part program names before at reached) why is
            (λ waits. (same, scalar_waits earlier.used later.first ((kept (Err why) passes).waits waits)))

        -- the scalar was set
        pub scalar_done : (done : T) → Passes names.bases middle earlier later (Ok done) set_part
            → Loads program names before middle earlier later (Ok (temporary.Scalar given)) (scalar_part program names before at reached)
        scalar_done done passes = record {
          act = record { through = scalar_through earlier.used later.used (kept (Ok done) passes).through; waits = tt };
          inside = subst (MayBeIn before) (sym is) (held_may_be_in before reached.base reached.offset);
          same = same;
          unchanged = tt;
        }
