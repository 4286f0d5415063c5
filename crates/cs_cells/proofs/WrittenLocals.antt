-- States with pointers to locals only, after a write to their locals: their memory, and that they remain such states.
use Rattle.std.proofs.Common.{◌≡◌, ◌≢◌, ◌⊎◌, inl, inr, ◌∷◌, ℕ, Bool, List, map, refl, sym, ap, ◌∙◌, subst}
use Rattle.std.specs.Prelude.{Option, None, Some, slice_get}
use Rattle.std.proofs.lemmas.Bool.Decides.{eqb_tells}
use Rattle.cs_ast.specs.TypedProgram.{TypedProgram}
use Rattle.cs_terms.specs.Term.{Valuation}
use Rattle.cs_regions.specs.declared.base.Base.{Base}
use Rattle.cs_regions.specs.declared.base.Base.TheVariants.{Local}
use Rattle.cs_regions.specs.Numbering.{IsNumbered}
use Rattle.cs_store.specs.declared.value.Value.{Value}
use Rattle.cs_terms.specs.declared.symbol.Sym.{Sym}
use Rattle.cs_store.specs.declared.value.Fill as store
use Rattle.cs_store.specs.declared.value.Fill.TheVariants.{Unset}
use Rattle.cs_store.specs.declared.value.Binding.{Binding}
use Rattle.cs_store.specs.declared.value.Binding.TheVariants.{Direct, Fill}
use Rattle.cs_store.specs.Held.{held}
use Rattle.cs_events.specs.Objects.{LocalObject}
use Rattle.cs_meaning.specs.Memory.{UnsetFill, changed, write_cell, refill}
use Rattle.cs_meaning.specs.Machine as machine
use Rattle.cs_cfg.specs.Graph.{Code}
use Rattle.cs_state.specs.declared.state.State.{State}
use Rattle.cs_state.specs.Naming.{Naming}
use Rattle.cs_state.specs.Cells.{object_of, cell_of}
use Rattle.cs_state.specs.Meaning.{meaning}
use Rattle.cs_state.specs.Objects.{Owner, owner}
use Rattle.cs_state.specs.ReadCells.{read_at}
use Rattle.cs_state.specs.Writes.{with_memory}
use Rattle.cs_state.proofs.ReceivedMore.{direct_no_fill}
use Rattle.cs_progress.specs.Locals.{HasLocalsAlone, IsIn, IsUnfilled}
use Rattle.cs_progress.specs.Stepping.{StaysInFrame}
use Rattle.cs_cells.specs.InMemory.{memory_in}
use Rattle.cs_cells.proofs.Bindings.{binding_is_write, unbinding_is_refill}

-- an offset of a base region is this one, or another
place_tells : (b base o offset : ℕ) → ((b ≡ base) × (o ≡ offset)) ⊎ ((b ≢ base) ⊎ (o ≢ offset))
place_tells b base o offset = elim (eqb_tells b base) [
  | inr other ↦ inr (inl other.1)
  | inl same ↦ elim (eqb_tells o offset) [
    | inr other ↦ inr (inr other.1)
    | inl here ↦ inl (same.1, here.1)
  ]
]

same_direct : (value given : Value) → Direct value ≡ Direct given → value ≡ given
same_direct value given e = cc

not_read : {A : Type 0} (symbol : Sym) → None ≡ Some symbol → A
not_read symbol e = cc

same_fill : (fill given : store.Fill) → Fill fill ≡ Fill given → given ≡ fill
same_fill fill given e = cc

module _ (before after : State) (rest : after ≡ with_memory after.store after.read before) where
  -- a write to memory keeps the frame's position
  pub written_stays : StaysInFrame before after
  written_stays = subst (StaysInFrame before) (sym rest) (record {
    known = record { model = refl; constraints = refl; counters = refl; asked = refl; phase = refl; blocks = refl };
    answers = refl;
    callers = refl;
    number = refl;
    spot = refl;
  })

  module _ (program : TypedProgram) (names : Naming) where
    -- and changes only memory
    pub written_means : (code : Code) (v : Valuation)
        → meaning code names program after v ≡ machine.with_memory (memory_in program names after v) (meaning code names program before v)
    written_means code v =
        subst (λ (s : State). meaning code names program s v ≡ machine.with_memory (memory_in program names s v) (meaning code names program before v))
        (sym rest) refl

    module _ (known : ℕ → Bool) (alone : HasLocalsAlone program names.bases known before) where
      -- each value of the store was there before, or may be in the frame; and what was read was read before
      locals_written : ((b o : ℕ) (given : Value) → held after.store b o ≡ Direct given → IsIn program names.bases known before.frame given)
          → ((b o : ℕ) → IsUnfilled after.store b o)
          → ((b o : ℕ) (symbol : Sym) → read_at after.read b o ≡ Some symbol → read_at before.read b o ≡ Some symbol)
          → HasLocalsAlone program names.bases known after
      locals_written stored filled read = subst (HasLocalsAlone program names.bases known) (sym rest) (record {
        callers = alone.callers;
        answers = alone.answers;
        temporaries = alone.temporaries;
        stored = stored;
        filled = filled;
        result = alone.result;
        read = λ b o symbol is. alone.read b o symbol (read b o symbol is);
      })

      module _ (base offset : ℕ) (value : Value) (here : held after.store base offset ≡ Direct value)
          (elsewhere : (b o : ℕ) → (b ≢ base) ⊎ (o ≢ offset) → held after.store b o ≡ held before.store b o) where
        here_is : (b o : ℕ) → (b ≡ base) × (o ≡ offset) → Direct value ≡ held after.store b o
        here_is b o same =
            let base_is = sym same.0 in
            let offset_is = sym same.1 in
            sym here ∙ (λ i. held after.store (base_is i) (offset_is i))

        -- a value that may be in the frame was bound
        pub locals_bound : read_at after.read base offset ≡ None
            → ((b o : ℕ) → (b ≢ base) ⊎ (o ≢ offset) → read_at after.read b o ≡ read_at before.read b o)
            → IsIn program names.bases known before.frame value → HasLocalsAlone program names.bases known after
        locals_bound gone others inside =
            locals_written
            (λ b o given is. elim (place_tells b base o offset) [
              | inl same ↦ subst (IsIn program names.bases known before.frame) (same_direct value given (here_is b o same ∙ is)) inside
              | inr other ↦ alone.stored b o given (sym (elsewhere b o other) ∙ is)
            ])
            (λ b o fill is. elim (place_tells b base o offset) [
              | inl same ↦ absurd (direct_no_fill value fill (here_is b o same ∙ is))
              | inr other ↦ alone.filled b o fill (sym (elsewhere b o other) ∙ is)
            ])
            (λ b o symbol is. elim (place_tells b base o offset) [
              | inl same ↦ not_read symbol (sym gone ∙ (λ i. read_at after.read (sym same.0 i) (sym same.1 i)) ∙ is)
              | inr other ↦ sym (others b o other) ∙ is
            ])

        -- a cell was written
        pub memory_bound : (region : Base) → IsNumbered names.bases → slice_get names.bases base ≡ Some region → (v : Valuation)
            → memory_in program names after v
            ≡ changed (write_cell offset (cell_of names.bases before.blocks v value)) (object_of region) (memory_in program names before v)
        memory_bound region once named v =
            ap (λ (s : State). memory_in program names s v) rest
            ∙ binding_is_write program names (map owner (before.frame ∷ before.callers)) before.blocks v before.store after.store base offset value region
            once named alone.filled here elsewhere

      module _ (base : ℕ) (none : (o : ℕ) → held after.store base o ≡ Fill Unset)
          (elsewhere : (b o : ℕ) → b ≢ base → held after.store b o ≡ held before.store b o) where
        -- a base region is unbound
        pub locals_unbound : ((o : ℕ) → read_at after.read base o ≡ None)
            → ((b o : ℕ) → b ≢ base → read_at after.read b o ≡ read_at before.read b o) → HasLocalsAlone program names.bases known after
        locals_unbound gone others =
            locals_written
            (λ b o given is. elim (eqb_tells b base) [
              | inl same ↦ absurd (direct_no_fill given Unset (sym is ∙ ap (λ n. held after.store n o) same.1 ∙ none o))
              | inr other ↦ alone.stored b o given (sym (elsewhere b o other.1) ∙ is)
            ])
            (λ b o fill is. elim (eqb_tells b base) [
              | inl same ↦ same_fill Unset fill (sym (none o) ∙ ap (λ n. held after.store n o) (sym same.1) ∙ is)
              | inr other ↦ alone.filled b o fill (sym (elsewhere b o other.1) ∙ is)
            ])
            (λ b o symbol is. elim (eqb_tells b base) [
              | inl same ↦ not_read symbol (sym (gone o) ∙ ap (λ n. read_at after.read n o) (sym same.1) ∙ is)
              | inr other ↦ sym (others b o other.1) ∙ is
            ])

        -- a local is unset
        pub memory_unbound : (frame declaration : ℕ) → IsNumbered names.bases → slice_get names.bases base ≡ Some (Local frame declaration)
            → (v : Valuation)
            → memory_in program names after v ≡ changed (refill UnsetFill) (LocalObject frame declaration) (memory_in program names before v)
        memory_unbound frame declaration once named v =
            ap (λ (s : State). memory_in program names s v) rest
            ∙ unbinding_is_refill program names (map owner (before.frame ∷ before.callers)) before.blocks v before.store after.store base frame declaration
            once named alone.filled none elsewhere
