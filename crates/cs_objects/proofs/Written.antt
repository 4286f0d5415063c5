-- Scalars that were written, one after another: for the contract of `written_cells`.
use Rattle.std.proofs.Common.{◌≡◌, ℕ, ◌<◌, length, get_or, ◌+◌, List, [], ◌∷◌, ◌++◌, map, take, Option, Some}
use Rattle.std.proofs.Common.{sym, ap, ◌∙◌}
use Rattle.std.specs.Prelude.{option_map}
use Rattle.std.specs.BTreeMap.{get}
use Rattle.std.specs.Ordering.{nat_cmp}
use Rattle.std.proofs.lemmas.List.{take_more}
use Rattle.cs_events.specs.Objects.{Cell}
use Rattle.cs_values.specs.declared.objects.Cell.{Cell as Held}
use Rattle.cs_values.specs.View.{cell_of}
use Rattle.cs_objects.specs.declared.blocks.Block.{Block as Stored}
use Rattle.cs_objects.specs.BlockView.{written_at}
use Rattle.cs_objects.proofs.Pushing.{map-push}

-- what was written in an object at offsets that are relative to another one
abbrev pub written_from : Stored → ℕ → List ℕ → List (Option Cell)
written_from block from offsets = map (λ (offset : ℕ). written_at block (from + offset)) offsets

-- one more scalar was written
pub one_more_found : (block : Stored) (from : ℕ) (offsets : List ℕ) (i at : ℕ) (held copy : Held) (cells more : List Held) → i < length offsets
    → from + get_or offsets i 0 ≡ at → get nat_cmp block.written at ≡ Some held → cell_of copy ≡ cell_of held → more ≡ cells ++ copy ∷ []
    → written_from block from (take i offsets) ≡ map (λ (cell : Held). Some (cell_of cell)) cells
    → written_from block from (take (i + 1) offsets) ≡ map (λ (cell : Held). Some (cell_of cell)) more
one_more_found block from offsets i at held copy cells more below place found copied added before =
    let gives : ℕ → Option Cell = λ offset. written_at block (from + offset) in
    let some : Held → Option Cell = λ cell. Some (cell_of cell) in
    let last = get_or offsets i 0 in
    let here : gives last ≡ some copy = ap (λ (n : ℕ). option_map cell_of (get nat_cmp block.written n)) place
    ∙ (ap (option_map cell_of) found ∙ ap (λ (c : Cell). Some c) (sym copied)) in
    ap (map gives) (take_more offsets i 0 below)
    ∙ (map-push gives (take i offsets) last
    ∙ (ap (λ (xs : List (Option Cell)). xs ++ gives last ∷ []) before
    ∙ (ap (λ (x : Option Cell). map some cells ++ x ∷ []) here ∙ sym (ap (map some) added ∙ map-push some cells copy))))
