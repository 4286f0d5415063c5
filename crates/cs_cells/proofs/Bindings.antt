-- Writes to a base region that was never filled, in the memory that a state represents: for the contracts of stores.
use Rattle.std.proofs.Common.{◌≡◌, ◌≢◌, ◌⊎◌, inl, inr, ◌==◌, ℕ, Bool, true, false, List, true≢false, refl, sym, ap, ◌∙◌, subst}
use Rattle.std.specs.Prelude.{Option, None, Some, slice_get, option_map, if◌then◌else◌}
use Rattle.std.specs.Option.{option_and_then}
use Rattle.std.proofs.lemmas.Option.{none-some, same_Some}
use Rattle.std.proofs.lemmas.Bool.Decides.{eqb_tells}
use mathlib.Core.Path.{fun_ext}
use Rattle.cs_ast.specs.TypedProgram.{TypedProgram, Variable}
use Rattle.cs_terms.specs.Term.{Valuation}
use Rattle.cs_regions.specs.declared.base.Base.{Base}
use Rattle.cs_regions.specs.declared.base.Base.TheVariants.{Local}
use Rattle.cs_regions.specs.Numbering.{IsNumbered}
use Rattle.cs_store.specs.declared.value.Value.{Value}
use Rattle.cs_store.specs.declared.value.Fill as store
use Rattle.cs_store.specs.declared.value.Fill.TheVariants.{Unset}
use Rattle.cs_store.specs.declared.value.Binding.{Binding}
use Rattle.cs_store.specs.declared.value.Binding.TheVariants.{Direct, Fill}
use Rattle.cs_store.specs.Contents.{Contents, held_in, filled}
use Rattle.cs_store.specs.Held.{Regions, contents_of, held}
use Rattle.cs_events.specs.Objects.{Object, LocalObject, Cell, same_object}
use Rattle.cs_meaning.specs.Memory.{Block, Memory, UnsetFill, changed, write_cell, refill}
use Rattle.cs_meaning.specs.Machine.{routine_of}
use Rattle.cs_meaning.specs.Calls.{local_block}
use Rattle.cs_state.specs.Naming.{Naming}
use Rattle.cs_state.specs.Cells.{Blocks, object_of, cell_of}
use Rattle.cs_state.specs.Objects.{Owner, owner_numbered, local_of, number_of, contents_in, written_over, unwritten, memory_of}
use Rattle.cs_state.proofs.Numbers.{number_here, number_of_object}
use Rattle.cs_state.proofs.ReceivedMore.{direct_no_fill}
use Rattle.cs_progress.proofs.NumberedObjects.{same_itself, equal_objects}
use Rattle.cs_cells.proofs.Unfilled.{IsNeverFilled, bound_value, bound_over, never_filled}

-- contents that hold the same at all offsets
module _ (cell : Value → Cell) where
  pub same_held : (before after : Contents) → IsNeverFilled before → ((o : ℕ) → held_in after o ≡ held_in before o)
      → (block : Block) → written_over cell after block ≡ written_over cell before block
  same_held before after never same block =
      never_filled cell after (λ o fill is. never o fill (sym (same o) ∙ is)) block
      ∙ (λ i. bound_over cell (λ o. same o i) block)
      ∙ sym (never_filled cell before never block)

  -- one more cell was bound
  pub one_more : (before after : Contents) (offset : ℕ) (value : Value) → IsNeverFilled before → held_in after offset ≡ Direct value
      → ((o : ℕ) → o ≢ offset → held_in after o ≡ held_in before o)
      → (block : Block) → written_over cell after block ≡ write_cell offset (cell value) (written_over cell before block)
  one_more before after offset value never here elsewhere block =
      never_filled cell after never_after block
      ∙ (λ i. record block { written = λ at. by_offset at (eqb_tells at offset) i })
      ∙ ap (write_cell offset (cell value)) (sym (never_filled cell before never block))
    where
      never_after : IsNeverFilled after
      never_after o fill is = elim (eqb_tells o offset) [
        | inl same ↦ absurd (direct_no_fill value fill (sym here ∙ ap (held_in after) (sym same.1) ∙ is))
        | inr other ↦ never o fill (sym (elsewhere o other.1) ∙ is)
      ]

      by_offset : (at : ℕ) → (((at == offset) ≡ true) × (at ≡ offset)) ⊎ (((at == offset) ≡ false) × (at ≢ offset))
          → option_map cell (bound_value (held_in after at))
          ≡ (if at == offset then Some (cell value) else option_map cell (bound_value (held_in before at)))
      by_offset at (inl same) =
          rw same.0 (ap (λ found. option_map cell (bound_value found)) (ap (held_in after) same.1 ∙ here))
      by_offset at (inr other) = rw other.0 (ap (λ found. option_map cell (bound_value found)) (elsewhere at other.1))

  same_unset : (fill : store.Fill) → Fill fill ≡ Fill Unset → fill ≡ Unset
  same_unset fill e = cc

  -- after unbinding, an object that was never filled is unset
  pub none_bound : (before after : Contents) → IsNeverFilled before → ((o : ℕ) → held_in after o ≡ Fill Unset)
      → (block : Block) → block.fill ≡ UnsetFill → written_over cell after block ≡ refill UnsetFill (written_over cell before block)
  none_bound before after never none block unset =
      never_filled cell after (λ o fill is. same_unset fill (sym is ∙ none o)) block
      ∙ (λ i. record block { fill = unset i; written = λ o. option_map cell (bound_value (none o i)) })

map_twice : {X : Type 0} (f g h : X → X) (o : Option X) → ((x : X) → o ≡ Some x → f x ≡ h (g x))
    → option_map f o ≡ option_map h (option_map g o)
map_twice f g h None same = refl
map_twice f g h (Some x) same = ap Some (same x refl)

module _ (program : TypedProgram) (names : Naming) (owners : List Owner) (blocks : Blocks) (valuation : Valuation) where
  abbrev cell : Value → Cell
  cell = cell_of names.bases blocks valuation

  abbrev memory : Regions → Memory
  memory = memory_of program names owners blocks valuation

  abbrev first : Memory
  first = unwritten program names owners blocks valuation

  -- if only one base region changes, only its object does
  pub region_changed : (change : Block → Block) (before after : Regions) (base : ℕ) (region : Base) → IsNumbered names.bases
      → slice_get names.bases base ≡ Some region → ((b o : ℕ) → b ≢ base → held after b o ≡ held before b o)
      → ((b : ℕ) → IsNeverFilled (contents_of before b))
      → ((block : Block) → first (object_of region) ≡ Some block
      → written_over cell (contents_of after base) block ≡ change (written_over cell (contents_of before base) block))
      → memory after ≡ changed change (object_of region) (memory before)
  region_changed change before after base region once named elsewhere never here =
      fun_ext (λ object. at object (same_object (object_of region) object) refl)
    where
      other_region : (object : Object) (number : Option ℕ) → number_of names.bases object ≡ number → same_object (object_of region) object ≡ false
          → (block : Block) → written_over cell (contents_in after number) block ≡ written_over cell (contents_in before number) block
      other_region object None is differs block = refl
      other_region object (Some n) is differs block =
          same_held cell (contents_of before n) (contents_of after n) (never n) (λ o. elsewhere n o (λ same. not_base same)) block
        where
          not_base : n ≡ base → ⊥
          not_base same =
              let (found, there, object_is) = number_of_object names.bases object n is in
              let one : found ≡ region = same_Some found region (sym there ∙ ap (slice_get names.bases) same ∙ named) in
              let itself : object_of region ≡ object = ap object_of (sym one) ∙ object_is in
              true≢false (sym (same_itself region) ∙ ap (same_object (object_of region)) itself ∙ differs)

      at : (object : Object) (same : Bool) → same_object (object_of region) object ≡ same
          → memory after object ≡ (if same_object (object_of region) object then option_map change (memory before object) else memory before object)
      at object true same =
          let is : object ≡ object_of region = equal_objects (object_of region) object same in
          let number : number_of names.bases object ≡ Some base = ap (number_of names.bases) is ∙ number_here names.bases base region once named in
          rw (same, number)
          (map_twice (written_over cell (contents_of after base)) (written_over cell (contents_of before base)) change (first object)
          (λ block there. here block (ap first (sym is) ∙ there)))
      at object false same =
          rw same (ap (λ (f : Block → Block). option_map f (first object))
          (fun_ext (other_region object (number_of names.bases object) refl same)))

  -- a value was bound at an offset
  pub binding_is_write : (before after : Regions) (base offset : ℕ) (value : Value) (region : Base) → IsNumbered names.bases
      → slice_get names.bases base ≡ Some region → ((b : ℕ) → IsNeverFilled (contents_of before b)) → held after base offset ≡ Direct value
      → ((b o : ℕ) → (b ≢ base) ⊎ (o ≢ offset) → held after b o ≡ held before b o)
      → memory after ≡ changed (write_cell offset (cell value)) (object_of region) (memory before)
  binding_is_write before after base offset value region once named never here elsewhere =
      region_changed (write_cell offset (cell value)) before after base region once named (λ b o differs. elsewhere b o (inl differs)) never
      (λ block there. one_more cell (contents_of before base) (contents_of after base) offset value (never base) here
      (λ o differs. elsewhere base o (inr differs)) block)

  -- a local begins unset
  unset_local : (it : Option Owner) (declaration : ℕ) (block : Block)
      → option_and_then (λ (o : Owner). local_of program o declaration) it ≡ Some block → block.fill ≡ UnsetFill
  unset_local None declaration block there = absurd (none-some block there)
  unset_local (Some o) declaration block there = by (slice_get (routine_of program o.function).variables declaration) there
    where
      by : (found : Option Variable) → option_map (local_block program None) found ≡ Some block → block.fill ≡ UnsetFill
      by None e = absurd (none-some block e)
      by (Some v) e = ap (λ (b : Block). b.fill) (sym (same_Some (local_block program None v) block e))

  -- a local is unbound
  pub unbinding_is_refill : (before after : Regions) (base frame declaration : ℕ) → IsNumbered names.bases
      → slice_get names.bases base ≡ Some (Local frame declaration) → ((b : ℕ) → IsNeverFilled (contents_of before b))
      → ((o : ℕ) → held after base o ≡ Fill Unset) → ((b o : ℕ) → b ≢ base → held after b o ≡ held before b o)
      → memory after ≡ changed (refill UnsetFill) (LocalObject frame declaration) (memory before)
  unbinding_is_refill before after base frame declaration once named never none elsewhere =
      region_changed (refill UnsetFill) before after base (Local frame declaration) once named elsewhere never
      (λ block there. none_bound cell (contents_of before base) (contents_of after base) (never base) none block
      (unset_local (owner_numbered frame owners) declaration block there))
