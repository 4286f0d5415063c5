-- The cells that were read from inputs as a list, in order of base region and offset.
use Rattle.std.specs.Prelude.{ℕ, List, map}
use Rattle.std.specs.List.{flat_map}
use Rattle.std.specs.FinMap as finite
use Rattle.cs_terms.specs.declared.symbol.Sym.{Sym}
use Rattle.cs_state.specs.declared.read_cells.ReadCell.{ReadCell}
use Rattle.cs_state.specs.ReadCells.{SymMap, ReadMap}

-- the cell of an entry
abbrev pub cell_at : ℕ → (ℕ × ℕ) × Sym → ReadCell
cell_at base entry = record { base = base; offset = entry.0.0; sym = entry.1 }

-- the cells of one base region
abbrev pub cells_at : ℕ → SymMap → List ReadCell
cells_at base cells = map (cell_at base) (finite.entries cells)

-- the same, for an entry of the map of base regions
abbrev pub cells_of_entry : (ℕ × ℕ) × SymMap → List ReadCell
cells_of_entry entry = cells_at entry.0.0 entry.1

-- the cells of all base regions
abbrev pub cells_in_order : ReadMap → List ReadCell
cells_in_order read = flat_map cells_of_entry (finite.entries read)
