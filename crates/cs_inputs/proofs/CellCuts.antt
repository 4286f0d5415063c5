-- The cells that a text begins with, one after the other, and that the list of them is unique: for `first_cell` and
-- `cells_of`.
use Rattle.std.proofs.Common.{◌≡◌, ℕ, ◌<◌, ◌^◌, true, not, List, [], ◌∷◌, ◌++◌, length, drop, ap, sym, ◌∙◌, refl, append_assoc}
use Rattle.std.proofs.Common.{arith}
use Rattle.std.specs.Prelude.{◌==◌}
use Rattle.std.specs.List.{All, list_all}
use Rattle.std.specs.Fmt.{decimal}
use Rattle.std.proofs.lemmas.Fmt.{decimal_injective, digits_decimal}
use Rattle.std.proofs.lemmas.List.Elements.{All-head, All-tail, All-push}
use Rattle.cs_inputs.specs.InputText.{is_digit}
use Rattle.cs_inputs.specs.PathText.{cells_text}
use Rattle.cs_inputs.specs.Reading.{SplitsBefore, IsEmptyOrAt, AreCellsOf, BeginsWithCell, IsDecimalOf}
use Rattle.cs_inputs.proofs.CellsText.{cells_text-push}
use Rattle.cs_inputs.proofs.DecimalTexts.{own}
use Rattle.cs_inputs.proofs.RootTexts.{no_tail}
use Rattle.cs_inputs.proofs.Splits.{all_without, one_cut, same_cut}

decimal_without_at : (n : ℕ) → n < 2 ^ 64 → list_all (λ b. not (b == 64)) (decimal n) ≡ true
decimal_without_at n fits = all_without is_digit 64 refl (decimal n) (digits_decimal own n fits)

pub cells_at : (cells : List ℕ) → IsEmptyOrAt 64 (cells_text cells)
cells_at [] = tt
cells_at (c ∷ cs) = refl

-- ---- the first cell of a text
-- the first cell of a text is unique
pub one_cell : (text : List ℕ) (m n : ℕ) (b d : List ℕ) → BeginsWithCell text m b → BeginsWithCell text n d → (m ≡ n) × (b ≡ d)
one_cell text m n b d one other =
    let same : decimal m ++ b ≡ decimal n ++ d = ap (drop 1) (sym one.whole ∙ other.whole) in
    let cut = one_cut 64 (decimal m) (decimal n) b d (decimal_without_at m one.fits) (decimal_without_at n other.fits) one.at other.at same in
    (decimal_injective m n one.fits other.fits cut.0, cut.1)

-- a text of cells begins with the first of them
pub begins_with_first : (text : List ℕ) (c : ℕ) (cs : List ℕ) → AreCellsOf text (c ∷ cs) → BeginsWithCell text c (cells_text cs)
begins_with_first text c cs cells = record { fits = All-head (λ o. o < 2 ^ 64) c cs cells.fit; whole = sym cells.is; at = cells_at cs }

-- without a number after the `@`, there is no cell
pub no_cell : (text cell digits following : List ℕ) → text ≡ 64 ∷ cell → SplitsBefore 64 cell digits following
    → ((n : ℕ) → IsDecimalOf digits n → ⊥) → (offset : ℕ) (others : List ℕ) → BeginsWithCell text offset others → ⊥
no_cell text cell digits following is cut none offset others begins =
    let whole : cell ≡ decimal offset ++ others = ap (drop 1) (sym is ∙ begins.whole) in
    let same = same_cut 64 cell digits (decimal offset) following others cut
    (record { whole = whole; none = decimal_without_at offset begins.fits; at = begins.at }) in
    none offset (record { fits = begins.fits; is = sym same.0 })

-- ---- cell after cell
-- the cells that are read so far, and the rest of the text; all cells of the text end with cells of the rest
pub record AreReadTo (text cells rest : List ℕ) : Type 0 where
  pub whole : text ≡ cells_text cells ++ rest
  pub fit : All (λ offset. offset < 2 ^ 64) cells
  pub only : (others : List ℕ) → AreCellsOf text others → (more : List ℕ) × AreCellsOf rest more

after_cell : (rest : List ℕ) (offset : ℕ) (following : List ℕ) → BeginsWithCell rest offset following → (more : List ℕ) → AreCellsOf rest more
    → (others : List ℕ) × AreCellsOf following others
after_cell rest offset following begins [] cells = absurd (no_tail 64 (decimal offset ++ following) (sym begins.whole ∙ sym cells.is))
after_cell rest offset following begins (c ∷ cs) cells =
    let same = one_cell rest c offset (cells_text cs) following (begins_with_first rest c cs cells) begins in
    (cs, record { fit = All-tail (λ o. o < 2 ^ 64) c cs cells.fit; is = same.1 })

pub one_more : (text cells rest : List ℕ) (offset : ℕ) (following : List ℕ) → AreReadTo text cells rest → BeginsWithCell rest offset following
    → AreReadTo text (cells ++ offset ∷ []) following
one_more text cells rest offset following read begins = record {
  whole = read.whole ∙ ap (λ t. cells_text cells ++ t) begins.whole ∙ sym (append_assoc (cells_text cells) (64 ∷ decimal offset) following)
      ∙ sym (ap (λ t. t ++ following) (cells_text-push cells offset));
  fit = All-push (λ o. o < 2 ^ 64) cells offset read.fit begins.fits;
  only = λ others are. let more = read.only others are in after_cell rest offset following begins more.0 more.1;
}

pub not_read : (text cells rest : List ℕ) → AreReadTo text cells rest → 0 < length rest
    → ((offset : ℕ) (following : List ℕ) → BeginsWithCell rest offset following → ⊥) → (others : List ℕ) → AreCellsOf text others → ⊥
not_read text cells rest read some none others are = let more = read.only others are in at more.0 more.1
  where
    at : (more : List ℕ) → AreCellsOf rest more → ⊥
    at [] h = omega (arith, ap length h.is)
    at (c ∷ cs) h = none c (cells_text cs) (begins_with_first rest c cs h)

-- ---- a text has one list of cells
pub same_cells : (text : List ℕ) (one other : List ℕ) → AreCellsOf text one → AreCellsOf text other → one ≡ other
same_cells text [] [] r s = refl
same_cells text [] (d ∷ ds) r s = absurd (no_tail 64 (decimal d ++ cells_text ds) (s.is ∙ sym r.is))
same_cells text (c ∷ cs) [] r s = absurd (no_tail 64 (decimal c ++ cells_text cs) (r.is ∙ sym s.is))
same_cells text (c ∷ cs) (d ∷ ds) r s =
    let same = one_cell text c d (cells_text cs) (cells_text ds) (begins_with_first text c cs r) (begins_with_first text d ds s) in
    let rest = same_cells (cells_text cs) cs ds (record { fit = All-tail (λ o. o < 2 ^ 64) c cs r.fit; is = refl })
    (record { fit = All-tail (λ o. o < 2 ^ 64) d ds s.fit; is = sym same.1 }) in
    ap (λ o. o ∷ cs) same.0 ∙ ap (λ os. d ∷ os) rest
