-- What holds for each value that a map finds holds for its entries, and conversely; also for the cells that were read: for what states mention.
use Rattle.std.proofs.Common.{◌≡◌, ℕ, Bool, true, false, cond, List, [], ◌∷◌, ◌++◌, map, Option, None, Some, All, refl, sym, ap, ◌∙◌, subst}
use Rattle.std.specs.List.{flat_map}
use Rattle.std.specs.Option.{unwrap_or}
use Rattle.std.specs.Ordering.{eq_by_cmp}
use Rattle.std.specs.FinMap as finite
use Rattle.std.specs.FinMap.Entries.{find}
use Rattle.std.proofs.lemmas.List.Elements.{All-nil, All-cons, All-head, All-tail, All-append, All-map}
use Rattle.std.proofs.lemmas.Option.{same_Some}
use Rattle.cs_pmap.specs.Keys.{key_cmp, EntryList}
use Rattle.cs_store.proofs.Keys.{same_key}
use Rattle.cs_store.proofs.Same.{AreFound, all_found}
use Rattle.cs_terms.specs.declared.symbol.Sym.{Sym}
use Rattle.cs_state.specs.declared.read_cells.ReadCell.{ReadCell}
use Rattle.cs_state.specs.ReadCells.{SymMap, ReadMap, HasPlainCells, read_at}
use Rattle.cs_state.specs.ReadLists.{cell_at, cells_at, cells_of_entry, cells_in_order}

nothing_found : {A V : Type 0} (v : V) → None ≡ Some v → A
nothing_found v e = cc

module _ {V : Type 0} (P : ℕ × ℕ → V → Type 0) where
  -- the same predicate for an entry
  abbrev pub OfEntry : (ℕ × ℕ) × V → Type 0
  OfEntry entry = P entry.0 entry.1

  all_found_so : (m : finite.FinMap key_cmp V) (es : EntryList V) → AreFound m es
      → ((key : ℕ × ℕ) (v : V) → finite.get m key ≡ Some v → P key v) → All OfEntry es
  all_found_so m [] found each = All-nil OfEntry
  all_found_so m (e ∷ es) found each = All-cons OfEntry e es (each e.0 e.1 found.0) (all_found_so m es found.1 each)

  pub all_entries : (m : finite.FinMap key_cmp V) → ((key : ℕ × ℕ) (v : V) → finite.get m key ≡ Some v → P key v) → All OfEntry (finite.entries m)
  all_entries m each = all_found_so m (finite.entries m) (all_found m) each

  found_so : (es : EntryList V) → All OfEntry es → (key : ℕ × ℕ) (v : V) → find key_cmp key es ≡ Some v → P key v
  found_so [] all key v is = nothing_found v is
  found_so (e ∷ es) all key v is = by (eq_by_cmp key_cmp key e.0) refl (found_so es (All-tail OfEntry e es all) key v) is
    where
      by : (t : Bool) → eq_by_cmp key_cmp key e.0 ≡ t → (find key_cmp key es ≡ Some v → P key v)
          → cond (eq_by_cmp key_cmp key e.0) (Some e.1) (find key_cmp key es) ≡ Some v → P key v
      by true t rest is =
          subst (λ (k : ℕ × ℕ). P k v) (sym (same_key key e.0 t))
          (subst (P e.0) (same_Some e.1 v (rw t at is)) (All-head OfEntry e es all))
      by false t rest is = rest (rw t at is)

  pub each_entry : (m : finite.FinMap key_cmp V) → All OfEntry (finite.entries m) → (key : ℕ × ℕ) (v : V) → finite.get m key ≡ Some v → P key v
  each_entry m all key v is = found_so (finite.entries m) all key v (sym (finite.get-entries m key) ∙ is)

module _ {X : Type 0} (Q : X → Type 0) where
  front : (xs ys : List X) → All Q (xs ++ ys) → All Q xs
  front [] ys all = All-nil Q
  front (x ∷ xs) ys all = All-cons Q x xs (All-head Q x (xs ++ ys) all) (front xs ys (All-tail Q x (xs ++ ys) all))

  back : (xs ys : List X) → All Q (xs ++ ys) → All Q ys
  back [] ys all = all
  back (x ∷ xs) ys all = back xs ys (All-tail Q x (xs ++ ys) all)

  module _ {W : Type 0} where
    -- what holds for all items of some lists holds for all of their concatenation, and conversely
    flattened : (f : W → List X) (ws : List W) → All (λ (w : W). All Q (f w)) ws → All Q (flat_map f ws)
    flattened f [] all = All-nil Q
    flattened f (w ∷ ws) all =
        All-append Q (f w) (flat_map f ws) (All-head (λ (w : W). All Q (f w)) w ws all) (flattened f ws (All-tail (λ (w : W). All Q (f w)) w ws all))

    unflattened : (f : W → List X) (ws : List W) → All Q (flat_map f ws) → All (λ (w : W). All Q (f w)) ws
    unflattened f [] all = All-nil (λ (w : W). All Q (f w))
    unflattened f (w ∷ ws) all =
        All-cons (λ (w : W). All Q (f w)) w ws (front (f w) (flat_map f ws) all) (unflattened f ws (back (f w) (flat_map f ws) all))

    unmapped : (f : W → X) (ws : List W) → All Q (map f ws) → All (λ (w : W). Q (f w)) ws
    unmapped f [] all = All-nil (λ (w : W). Q (f w))
    unmapped f (w ∷ ws) all =
        All-cons (λ (w : W). Q (f w)) w ws (All-head Q (f w) (map f ws) all) (unmapped f ws (All-tail Q (f w) (map f ws) all))

-- the symbols of cells that were read
module _ (P : ℕ → Type 0) (read : ReadMap) where
  abbrev pub OfCell : ReadCell → Type 0
  OfCell cell = P cell.sym.0

  abbrev OfCells : ℕ × ℕ → SymMap → Type 0
  OfCells key cells = All OfCell (cells_at key.0 cells)

  abbrev OfSymbol : ℕ × ℕ → Sym → Type 0
  OfSymbol key symbol = P symbol.0

  pub all_read : HasPlainCells read → ((base offset : ℕ) (symbol : Sym) → read_at read base offset ≡ Some symbol → P symbol.0)
      → All OfCell (cells_in_order read)
  all_read plain each = flattened OfCell cells_of_entry (finite.entries read) (all_entries OfCells read one)
    where
      one : (key : ℕ × ℕ) (cells : SymMap) → finite.get read key ≡ Some cells → OfCells key cells
      one key cells is =
          All-map OfCell (cell_at key.0) (finite.entries cells) (all_entries OfSymbol cells (λ offset symbol there.
          let zero = (plain key cells is).0 in
          let none = (plain key cells is).1 offset symbol there in
          let cells_are : finite.get read (key.0, 0) ≡ Some cells = subst (λ (n : ℕ). finite.get read (key.0, n) ≡ Some cells) zero is in
          let symbol_is : finite.get cells (offset.0, 0) ≡ Some symbol
          = subst (λ (n : ℕ). finite.get cells (offset.0, n) ≡ Some symbol) none there in
          each key.0 offset.0 symbol
          (ap (λ (found : Option SymMap). finite.get (unwrap_or found finite.empty) (offset.0, 0)) cells_are ∙ symbol_is)))

  pub each_read : All OfCell (cells_in_order read) → (base offset : ℕ) (symbol : Sym) → read_at read base offset ≡ Some symbol → P symbol.0
  each_read all base offset symbol is = by (finite.get read (base, 0)) refl is
    where
      by : (found : Option SymMap) → finite.get read (base, 0) ≡ found → finite.get (unwrap_or found finite.empty) (offset, 0) ≡ Some symbol → P symbol.0
      by None none is = nothing_found symbol (sym (finite.get-empty {X = Sym} key_cmp (offset, 0)) ∙ is)
      by (Some cells) there is =
          each_entry OfSymbol cells
          (unmapped OfCell (cell_at base) (finite.entries cells)
          (each_entry OfCells read (unflattened OfCell cells_of_entry (finite.entries read) all) (base, 0) cells there))
          (offset, 0) symbol is
