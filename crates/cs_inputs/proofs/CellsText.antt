-- The text of cells as it grows: for the loop of `print` over cells.
use Rattle.std.proofs.Common.{◌≡◌, ℕ, ◌+◌, ◌<◌, List, [], ◌∷◌, ◌++◌, length, take, get_or, sym, ◌∙◌, ap, append_assoc, refl}
use Rattle.std.specs.Fmt.{decimal}
use Rattle.std.proofs.lemmas.List.{take_more}
use Rattle.cs_inputs.specs.PathText.{cells_text}

append-nil : (xs : List ℕ) → xs ++ [] ≡ xs
append-nil [] = refl
append-nil (x ∷ xs) = ap (λ ys. x ∷ ys) (append-nil xs)

pub cells_text-push : (cells : List ℕ) (cell : ℕ) → cells_text (cells ++ cell ∷ []) ≡ cells_text cells ++ 64 ∷ decimal cell
cells_text-push [] cell = ap (λ ds. 64 ∷ ds) (append-nil (decimal cell))
cells_text-push (c ∷ cs) cell = ap (λ rest. 64 ∷ (decimal c ++ rest)) (cells_text-push cs cell)
    ∙ ap (λ rest. 64 ∷ rest) (sym (append_assoc (decimal c) (cells_text cs) (64 ∷ decimal cell)))

-- one more cell
pub cells_text_more : (before text : List ℕ) (cells : List ℕ) (i : ℕ) → i < length cells
    → text ≡ (before ++ cells_text (take i cells)) ++ (64 ∷ decimal (get_or cells i 0)) → text ≡ before ++ cells_text (take (i + 1) cells)
cells_text_more before text cells i h e =
    e ∙ append_assoc before (cells_text (take i cells)) (64 ∷ decimal (get_or cells i 0))
    ∙ ap (λ rest. before ++ rest) (sym (ap cells_text (take_more cells i 0 h) ∙ cells_text-push (take i cells) (get_or cells i 0)))
