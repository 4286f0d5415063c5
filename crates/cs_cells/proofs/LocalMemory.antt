-- The locals of the current frame in the memory that a state represents.
use Rattle.std.proofs.Common.{◌≡◌, ℕ, ◌<◌, nat_eq, List, ◌∷◌, map, length, Option, Some, None, option_map, slice_get, if◌then◌else◌}
use Rattle.std.proofs.Common.{refl, sym, ap, ◌∙◌, inl, inr, arith}
use Rattle.std.proofs.lemmas.Option.{slice_get_cases}
use Rattle.std.proofs.lemmas.Bool.{eq-eqb}
use Rattle.std.specs.Option.{option_and_then, option_map_or}
use Rattle.std.specs.FinMap as finite
use Rattle.cs_ast.specs.TypedProgram.{TypedProgram, Variable}
use Rattle.cs_terms.specs.Term.{Valuation}
use Rattle.cs_events.specs.Objects.{Object, LocalObject, Cell, UnsetCell}
use Rattle.cs_meaning.specs.Calls.{local_block}
use Rattle.cs_meaning.specs.Machine.{routine_of}
use Rattle.cs_meaning.specs.Memory.{Block, Memory, UnsetFill, Holds, found_in, filled, written_or, scalar_at}
use Rattle.cs_regions.specs.declared.base.Base.{Base}
use Rattle.cs_regions.specs.declared.base.Base.TheVariants.{Local}
use Rattle.cs_regions.specs.Numbering.{IsNumbered}
use Rattle.cs_store.specs.declared.value.Value.{Value}
use Rattle.cs_store.specs.declared.value.Value.TheVariants as value
use Rattle.cs_store.specs.declared.value.Fill.TheVariants as fill
use Rattle.cs_store.specs.declared.value.Fill as store
use Rattle.cs_store.specs.declared.value.Binding.TheVariants as found
use Rattle.cs_store.specs.Contents.{Contents, held_in}
use Rattle.cs_store.specs.Held.{Regions, contents_of, held}
use Rattle.cs_state.specs.declared.state.State.{State}
use Rattle.cs_state.specs.Cells.{Blocks, cell_of}
use Rattle.cs_state.specs.Naming.{Naming}
use Rattle.cs_state.specs.Objects.{Owner, owner, owner_numbered, local_of, contents_in, written_over, fill_over}
use Rattle.cs_state.proofs.Numbers.{number_here}
use Rattle.cs_cfg.specs.IntegerCode.{count_of_locals}
use Rattle.cs_progress.specs.Locals.{IsUnfilled, value_held}
use Rattle.cs_cells.specs.InMemory.{memory_in}

-- the first owner has its number
first_owner : (it : Owner) (owners : List Owner) → owner_numbered it.number (it ∷ owners) ≡ Some it
first_owner it owners = ap (λ b. if b then Some it else owner_numbered it.number owners) (eq-eqb it.number it.number refl)

-- a list has an item at each index below its length
item_there : {A : Type 0} (xs : List A) (place : ℕ) → place < length xs → (x : A) × (slice_get xs place ≡ Some x)
item_there xs place early = elim ((slice_get_cases xs place).1) [
  | inl there ↦ (there.0, there.2)
  | inr past ↦ absurd (omega (arith, early, past.0))
]

-- the cell of an object is what was bound there; otherwise it is unset
found_as : (program : TypedProgram) (object : Object) (block : Block) (contents : Contents) (cell : Value → Cell) (offset : ℕ)
    → cell value.Unset ≡ UnsetCell → block.fill ≡ UnsetFill
    → ((it : store.Fill) → held_in contents offset ≡ found.Fill it → it ≡ fill.Unset)
    → found_in program object (Some (written_over cell contents block)) offset ≡ Holds (cell (value_held (held_in contents offset)))
found_as program object block contents cell offset unset as_made unfilled = by (finite.get contents.direct (offset, 0)) unfilled
  where
    by : (bound : Option Value)
        → ((it : store.Fill) → option_map_or (λ x. found.Direct x) bound (found.Fill contents.fill) ≡ found.Fill it → it ≡ fill.Unset)
        → written_or (option_map cell bound)
        (filled program (fill_over contents.fill block.fill) (scalar_at program object (written_over cell contents block) offset) offset)
        ≡ Holds (cell (value_held (option_map_or (λ x. found.Direct x) bound (found.Fill contents.fill))))
    by (Some bound) unfilled = refl
    by None unfilled =
        let scalar = scalar_at program object (written_over cell contents block) offset in
        ap (λ it. filled program (fill_over it block.fill) scalar offset) (unfilled contents.fill refl)
        ∙ ap (λ it. filled program it scalar offset) as_made ∙ ap Holds (sym unset)

module _ (program : TypedProgram) (names : Naming) (state : State) (v : Valuation) (once : IsNumbered names.bases)
    (base declaration : ℕ) (named : slice_get names.bases base ≡ Some (Local state.frame.number declaration)) where
  abbrev memory : Memory
  memory = memory_in program names state v

  abbrev local : Object
  local = LocalObject state.frame.number declaration

  abbrev cell : Value → Cell
  cell = cell_of names.bases state.blocks v

  -- a local of the current frame is in memory as it was made, with the bindings of the store
  pub local_there : (variable : Variable) → slice_get (routine_of program state.frame.spot.function).variables declaration ≡ Some variable
      → memory local ≡ Some (written_over cell (contents_of state.store base) (local_block program None variable))
  local_there variable is =
      ap (λ number. option_map (written_over cell (contents_in state.store number)) (unwritten_local (owner_numbered state.frame.number owners)))
      (number_here names.bases base (Local state.frame.number declaration) once named)
      ∙ ap (λ found. option_map (written_over cell (contents_of state.store base)) (unwritten_local found))
      (first_owner (owner state.frame) (map owner state.callers))
      ∙ ap (λ found. option_map (written_over cell (contents_of state.store base)) (option_map (local_block program None) found)) is
    where
      owners : List Owner
      owners = map owner (state.frame ∷ state.callers)

      unwritten_local : Option Owner → Option Block
      unwritten_local found = option_and_then (λ it. local_of program it declaration) found

  -- its cell at an offset: what was bound there, or else unset
  pub local_holds : declaration < count_of_locals program state.frame.spot.function → (offset : ℕ) → IsUnfilled state.store base offset
      → found_in program local (memory local) offset ≡ Holds (cell (value_held (held state.store base offset)))
  local_holds early offset unfilled =
      let (variable, is) = item_there (routine_of program state.frame.spot.function).variables declaration early in
      ap (λ block. found_in program local block offset) (local_there variable is)
      ∙ found_as program local (local_block program None variable) (contents_of state.store base) cell offset refl refl unfilled
