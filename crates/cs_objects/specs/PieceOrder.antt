-- The order of an initializer's pieces.
use Rattle.std.specs.Prelude.{ℕ, ◌+◌, nat_le, Bool, true, ◌&&◌, List, [], ◌∷◌, length}
use Rattle.cs_objects.specs.declared.blocks.Piece.{Piece}
use Rattle.cs_objects.specs.declared.blocks.Piece.TheVariants as piece

-- the offset of a piece, and the first offset after it
abbrev pub start_of : Piece → ℕ
start_of (piece.Value offset e) = offset
start_of (piece.Text offset bytes) = offset

abbrev pub end_of : Piece → ℕ
end_of (piece.Value offset e) = offset + 1
end_of (piece.Text offset bytes) = offset + length bytes.now

-- whether pieces begin at or after an offset, and each ends before the next one begins
abbrev pub ascends_from : ℕ → List Piece → Bool
ascends_from from [] = true
ascends_from from (piece ∷ pieces) = nat_le from (start_of piece) && ascends_from (end_of piece) pieces
