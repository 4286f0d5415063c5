-- States with equal live parts, which have all of them, mean the same under valuations that agree on what is mentioned.
use Rattle.std.proofs.Common.{◌≡◌, ℕ, pos, List, [], ◌∷◌, map, length, Option, None, Some, if◌then◌else◌, refl, sym, ap}
use Rattle.std.proofs.Common.{◌∙◌, arith}
use Rattle.std.specs.Prelude.{option_map, slice_get, unwrap_or}
use Rattle.std.specs.FinMap as finite
use Rattle.std.proofs.lemmas.Simd.{map-map}
use Rattle.cs_pmap.specs.Keys.{key_cmp}
use Rattle.cs_types.specs.Shape.{Shape, void}
use Rattle.cs_events.specs.Operations.{is_true}
use Rattle.cs_events.specs.Objects.{Object, NumberCell, NullCell}
use Rattle.cs_meaning.specs.Calls.{bytes_of_number}
use Rattle.cs_meaning.specs.Memory.{Block as Known, none_written}
use Rattle.cs_meaning.specs.Machine.{Scalar, Whole}
use Rattle.cs_terms.specs.Term.{Valuation}
use Rattle.cs_constraints.specs.Constraints.{Sets, set_of}
use Rattle.cs_regions.specs.declared.base.Base.{Base}
use Rattle.cs_store.specs.declared.value.Value.{Value}
use Rattle.cs_store.specs.declared.value.Value.TheVariants as value
use Rattle.cs_store.specs.Contents.{Contents, bindings_of, HasOffsets}
use Rattle.cs_state.specs.declared.block.Block.{Block}
use Rattle.cs_state.specs.declared.temporary.Temporary.{Temporary}
use Rattle.cs_state.specs.declared.temporary.Temporary.TheVariants as temporary
use Rattle.cs_state.specs.Cells.{Blocks, block_of, pointer_to, is_there, cell_of, operand_of}
use Rattle.cs_state.specs.Objects.{made_block, first_fill, fill_over, written_over}
use Rattle.cs_keys.specs.Live.{LiveBlock, live_term, live_value, live_temporary}
use Rattle.cs_keys.specs.Live.{live_binding, live_block}
use Rattle.cs_coverage.proofs.AlikeEntries.{AreAlike, FindsAlike, said_alike, get_alike, map_keyed, map_alike}
use Rattle.cs_coverage.proofs.LiveTerms.{same_symbol, same_value}

no_items : {A : Type 0} (xs : List A) → length xs ≡ 0 → xs ≡ []
no_items [] e = refl
no_items (x ∷ xs) e = absurd (omega (arith, e))

-- an empty map has no entries
pub none_there : {V : Type 0} → finite.entries (finite.empty {X = V} {R = key_cmp}) ≡ []
none_there {V} =
    no_items (finite.entries (finite.empty {X = V} {R = key_cmp}))
    (sym (finite.len-entries (finite.empty {X = V} {R = key_cmp})) ∙ finite.len-empty key_cmp V)

module _ (sets others : Sets) where
  -- values with equal live parts
  abbrev pub SameValue : Value → Value → Type 0
  SameValue x y = live_value sets x ≡ live_value others y

  -- blocks with equal live parts
  abbrev pub SameBlock : Block → Block → Type 0
  SameBlock b c = live_block sets 0 b ≡ live_block others 0 c

  -- contents with equal live parts
  abbrev pub SameContents : Contents → Contents → Type 0
  SameContents c d = (c.fill ≡ d.fill) × (map (live_binding sets) (bindings_of c) ≡ map (live_binding others) (bindings_of d))

module _ (sets others : Sets) where
  -- what contents have at an offset
  pub direct_alike : (c d : Contents) → HasOffsets c.direct → HasOffsets d.direct → SameContents sets others c d → (offset : ℕ)
      → FindsAlike (SameValue sets others) (finite.get c.direct (offset, 0)) (finite.get d.direct (offset, 0))
  direct_alike c d plain bare same offset =
      let fused_one = map-map (live_binding sets) (λ (e : (ℕ × ℕ) × Value). (e.0.0, e.1)) (finite.entries c.direct) in
      let fused_two = map-map (live_binding others) (λ (e : (ℕ × ℕ) × Value). (e.0.0, e.1)) (finite.entries d.direct) in
      let alike : AreAlike (SameValue sets others) (finite.entries c.direct) (finite.entries d.direct) =
      said_alike (λ (e : (ℕ × ℕ) × Value). live_binding sets (e.0.0, e.1)) (λ (e : (ℕ × ℕ) × Value). live_binding others (e.0.0, e.1))
      (λ b. b.0)
      (SameValue sets others) (λ e. refl) (λ e. refl) (λ e f is. ap (λ b. b.1) is) (finite.entries c.direct) (finite.entries d.direct)
      (map_keyed c.direct plain) (map_keyed d.direct bare) (sym fused_one ∙ same.1 ∙ fused_two) in
      get_alike (SameValue sets others) (offset, 0) c.direct d.direct alike

module _ (sets others : Sets) (valuation other : Valuation)
    (agrees : (symbol : ℕ) → set_of sets symbol ≡ set_of others symbol → other symbol ≡ valuation symbol) where
  -- blocks
  pub there_alike : (one two : Option Block) → FindsAlike (SameBlock sets others) one two → is_there valuation one ≡ is_there other two
  there_alike None None alike = refl
  there_alike None (Some c) alike = absurd alike
  there_alike (Some b) None alike = absurd alike
  there_alike (Some b) (Some c) alike =
      ap is_true (same_symbol sets others valuation other agrees b.sym c.sym (ap (λ (l : LiveBlock). l.symbol) alike))

  made_alike : (types : List Shape) (object : Object) (b c : Block) → SameBlock sets others b c
      → made_block types valuation object b ≡ made_block types other object c
  made_alike types object b c alike =
      let elements : b.element.0 ≡ c.element.0 = ap (λ (l : LiveBlock). l.element) alike in
      let standings : b.standing ≡ c.standing = ap (λ (l : LiveBlock). l.standing) alike in
      let terms : live_term sets b.extent ≡ live_term others c.extent = ap (λ (l : LiveBlock). l.extent) alike in
      let extents = same_value sets others valuation other agrees b.extent c.extent terms in
      λ i. record {
        shape = unwrap_or (slice_get types (elements i)) void;
        extent = bytes_of_number (extents i);
        standing = standings i;
        fill = first_fill object;
        written = none_written;
      }

  pub found_made : (types : List Shape) (object : Object) (one two : Option Block) → FindsAlike (SameBlock sets others) one two
      → (if is_there valuation one then option_map (made_block types valuation object) one else None)
      ≡ (if is_there other two then option_map (made_block types other object) two else None)
  found_made types object None None alike = refl
  found_made types object None (Some c) alike = absurd alike
  found_made types object (Some b) None alike = absurd alike
  found_made types object (Some b) (Some c) alike =
      let there = there_alike (Some b) (Some c) alike in
      let made = made_alike types object b c alike in
      λ i. if there i then Some (made i) else None

  -- values
  module _ (bases : List Base) (blocks counterparts : Blocks)
      (there : (base : ℕ) → is_there valuation (block_of blocks base) ≡ is_there other (block_of counterparts base)) where
    pub same_cell : (x y : Value) → SameValue sets others x y → cell_of bases blocks valuation x ≡ cell_of bases counterparts other y
    same_cell (value.Number one) (value.Number two) same =
        let terms : live_term sets one ≡ live_term others two = cc in
        ap NumberCell (same_value sets others valuation other agrees one two terms)
    same_cell value.Null value.Null same = refl
    same_cell (value.At base one) (value.At place two) same =
        let places : base ≡ place = cc in
        let terms : live_term sets one ≡ live_term others two = cc in
        let offsets = same_value sets others valuation other agrees one two terms in
        λ i. pointer_to (slice_get bases (places i)) (offsets i)
    same_cell (value.Start base offset) (value.Start place start) same =
        let places : base ≡ place = cc in
        let offsets : offset ≡ start = cc in
        ap (λ b. if b then pointer_to (slice_get bases base) (pos offset) else NullCell) (there base)
        ∙ (λ i. if is_there other (block_of counterparts (places i)) then pointer_to (slice_get bases (places i)) (pos (offsets i)) else NullCell)
    same_cell value.Unset value.Unset same = refl
    same_cell x y same = cc

    pub same_operand : (x y : Temporary) → live_temporary sets x ≡ live_temporary others y
        → operand_of bases blocks valuation x ≡ operand_of bases counterparts other y
    same_operand (temporary.Scalar x) (temporary.Scalar y) same =
        let values : live_value sets x ≡ live_value others y = cc in
        ap Scalar (same_cell x y values)
    same_operand (temporary.Whole xs) (temporary.Whole ys) same =
        let values : map (live_value sets) xs ≡ map (live_value others) ys = cc in
        ap Whole (map_alike (live_value sets) (live_value others) _ _ same_cell xs ys values)
    same_operand temporary.Nothing temporary.Nothing same = refl
    same_operand x y same = cc

    -- the cell of a value that was found
    found_cell : (one two : Option Value) → FindsAlike (SameValue sets others) one two
        → option_map (cell_of bases blocks valuation) one ≡ option_map (cell_of bases counterparts other) two
    found_cell None None alike = refl
    found_cell None (Some y) alike = absurd alike
    found_cell (Some x) None alike = absurd alike
    found_cell (Some x) (Some y) alike = ap Some (same_cell x y alike)

    pub same_written : (c d : Contents) → HasOffsets c.direct → HasOffsets d.direct → SameContents sets others c d
        → (block : Known) → written_over (cell_of bases blocks valuation) c block ≡ written_over (cell_of bases counterparts other) d block
    same_written c d plain bare same block =
        let fills = same.0 in
        let direct : (o : ℕ) → option_map (cell_of bases blocks valuation) (finite.get c.direct (o, 0))
        ≡ option_map (cell_of bases counterparts other) (finite.get d.direct (o, 0)) =
        λ o. found_cell (finite.get c.direct (o, 0)) (finite.get d.direct (o, 0))
        (direct_alike sets others c d plain bare same o) in
        λ i. record block { fill = fill_over (fills i) block.fill; written = λ offset. direct offset i }
