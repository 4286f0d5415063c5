-- The contents of base regions that were never filled: for the lemmas on bindings.
use Rattle.std.proofs.Common.{◌≡◌, ◌≢◌, ◌≤◌, ◌+◌, ℕ, suc, Bool, true, false, cond, [], ◌∷◌, refl, sym, ap, ◌∙◌, arith}
use Rattle.std.specs.Prelude.{Option, None, Some}
use Rattle.std.specs.Ordering.{eq_by_cmp}
use Rattle.std.specs.Option.{option_map, option_map_or}
use Rattle.std.specs.FinMap as finite
use Rattle.std.specs.FinMap.Entries.{find}
use Rattle.cs_pmap.specs.Keys.{key_cmp, EntryList}
use Rattle.cs_store.proofs.Keys.{same_key}
use Rattle.cs_store.specs.declared.value.Value.{Value}
use Rattle.cs_store.specs.declared.value.Fill as store
use Rattle.cs_store.specs.declared.value.Fill.TheVariants.{Unset}
use Rattle.cs_store.specs.declared.value.Binding.{Binding}
use Rattle.cs_store.specs.declared.value.Binding.TheVariants.{Direct, Fill}
use Rattle.cs_store.specs.Contents.{Contents, held_in}
use Rattle.cs_events.specs.Objects.{Cell}
use Rattle.cs_meaning.specs.Memory.{Block}
use Rattle.cs_state.specs.Objects.{fill_over, written_over}

-- a bound above the numbers of all keys
above : {V : Type 0} → EntryList V → ℕ
above [] = 0
above (entry ∷ entries) = suc (entry.0.0 + above entries)

other_number : (n : ℕ) (k : ℕ × ℕ) → n ≢ k.0 → eq_by_cmp key_cmp (n, 0) k ≡ false
other_number n k differ = by (eq_by_cmp key_cmp (n, 0) k) refl
  where
    by : (t : Bool) → eq_by_cmp key_cmp (n, 0) k ≡ t → t ≡ false
    by true e = absurd (differ (ap (λ (p : ℕ × ℕ). p.0) (same_key (n, 0) k e)))
    by false e = refl

none_above : {V : Type 0} (entries : EntryList V) (n : ℕ) → above entries ≤ n → find key_cmp (n, 0) entries ≡ None
unfolding above
none_above [] n late = refl
none_above (entry ∷ entries) n late =
    ap (λ t. cond t (Some entry.1) (find key_cmp (n, 0) entries)) (other_number n entry.0 (λ same. absurd (omega (arith, late, same))))
    ∙ none_above entries n (omega (arith, late))

-- some offset isn't bound
unbound : (direct : finite.FinMap key_cmp Value) → (offset : ℕ) × (finite.get direct (offset, 0) ≡ None)
unbound direct =
    let n = above (finite.entries direct) in
    (n, finite.get-entries direct (n, 0) ∙ none_above (finite.entries direct) n (omega arith))

-- the value that was bound, if one was
abbrev pub bound_value : Binding → Option Value
bound_value (Direct value) = Some value
bound_value (Fill fill) = None

bound_in : (contents : Contents) (offset : ℕ) → finite.get contents.direct (offset, 0) ≡ bound_value (held_in contents offset)
bound_in contents offset = by (finite.get contents.direct (offset, 0))
  where
    by : (bound : Option Value) → bound ≡ bound_value (option_map_or (λ value. Direct value) bound (Fill contents.fill))
    by None = refl
    by (Some value) = refl

-- a region was never filled with anything
abbrev pub IsNeverFilled : Contents → Type 0
IsNeverFilled contents = (offset : ℕ) (fill : store.Fill) → held_in contents offset ≡ Fill fill → fill ≡ Unset

unset_fill : (contents : Contents) → IsNeverFilled contents → contents.fill ≡ Unset
unset_fill contents never =
    let (offset, none) = unbound contents.direct in
    never offset contents.fill (ap (λ bound. option_map_or (λ value. Direct value) bound (Fill contents.fill)) none)

-- an object with the values that were bound in it
abbrev pub bound_over : (Value → Cell) → (ℕ → Binding) → Block → Block
bound_over cell found block = record block { written = λ offset. option_map cell (bound_value (found offset)) }

-- what a region that was never filled holds at its offsets determines all that was written to its object
pub never_filled : (cell : Value → Cell) (contents : Contents) → IsNeverFilled contents → (block : Block)
    → written_over cell contents block ≡ bound_over cell (held_in contents) block
never_filled cell contents never block = λ i. record block {
  fill = by_fill i;
  written = λ offset. option_map cell (bound_in contents offset i);
}
  where
    by_fill : fill_over contents.fill block.fill ≡ block.fill
    by_fill = ap (λ (f : store.Fill). fill_over f block.fill) (unset_fill contents never)
