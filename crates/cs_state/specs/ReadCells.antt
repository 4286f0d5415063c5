-- The cells that were read from inputs, by base region and offset.
use Rattle.std.specs.Prelude.{◌≡◌, ℕ, nat_eq, Bool, List, [], ◌∷◌, map, Option, None, Some, if◌then◌else◌}
use Rattle.std.specs.Coded.{Coded, coded×, coded_ℕ, code_by}
use Rattle.std.specs.Prelude.{refl}
use Rattle.std.specs.FinMap as finite
use Rattle.std.specs.Option.{unwrap_or, option_or}
use Rattle.std.specs.List.{list_any}
use Rattle.cs_pmap.specs.Keys.{key_cmp, EntryList}
use Rattle.cs_store.specs.declared.value.Value.{Value}
use Rattle.cs_terms.specs.declared.symbol.Sym.{Sym}

-- symbols, keyed by an offset and 0
abbrev pub SymMap : Type 0
SymMap = finite.FinMap key_cmp Sym

-- such maps, keyed by a base region's number and 0
abbrev pub ReadMap : Type 0
ReadMap = finite.FinMap key_cmp SymMap

abbrev pub sym_code : Coded Sym
sym_code = code_by ℕ coded_ℕ (λ s. s.0) (λ n. record { 0 = n }) (λ _. refl)

abbrev pub sym_map_code : Coded SymMap
sym_map_code = finite.code (coded× coded_ℕ coded_ℕ) sym_code

abbrev pub read_map_code : Coded ReadMap
read_map_code = finite.code (coded× coded_ℕ coded_ℕ) sym_map_code

-- the cells of a base region
abbrev pub cells_of : ReadMap → ℕ → SymMap
cells_of read base = unwrap_or (finite.get read (base, 0)) finite.empty

-- the symbol that was read at an offset of a base region
abbrev pub read_at : ReadMap → ℕ → ℕ → Option Sym
read_at read base offset = finite.get (cells_of read base) (offset, 0)

-- the second number of each key is 0
abbrev pub AreOffsets : SymMap → Type 0
AreOffsets cells = (key : ℕ × ℕ) (sym : Sym) → finite.get cells key ≡ Some sym → key.1 ≡ 0

-- the second number of each key is 0, for base regions and for cells
abbrev pub HasPlainCells : ReadMap → Type 0
HasPlainCells read = (key : ℕ × ℕ) (cells : SymMap) → finite.get read key ≡ Some cells → (key.1 ≡ 0) × AreOffsets cells

-- offsets with their symbols as entries, keyed by the offset and 0
abbrev pub keyed : List (ℕ × Sym) → EntryList Sym
keyed cells = map (λ cell. ((cell.0, 0), cell.1)) cells

-- the last symbol that was read at an offset, in a list of them
abbrev pub last_read : List (ℕ × Sym) → ℕ → Option Sym
last_read [] offset = None
last_read (cell ∷ cells) offset = option_or (last_read cells offset) (if nat_eq offset cell.0 then Some cell.1 else None)

-- some leaf is at the offset
abbrev pub has_leaf : List (ℕ × Value) → ℕ → Bool
has_leaf leaves offset = list_any (λ leaf. nat_eq offset leaf.0) leaves
