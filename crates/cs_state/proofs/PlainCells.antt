-- The second number of each key of `ReadCells` is 0: for its invariant.
use Rattle.std.proofs.Common.{◌≡◌, ℕ, Bool, true, false, cond, List, [], ◌∷◌, refl, sym, ap, ◌∙◌, subst}
use Rattle.std.specs.Prelude.{Option, None, Some}
use Rattle.std.specs.FinMap as finite
use Rattle.std.specs.Option.{unwrap_or}
use Rattle.std.specs.Ordering.{eq_by_cmp}
use Rattle.std.proofs.lemmas.Option.{none-some, same_Some}
use Rattle.cs_pmap.specs.Keys.{key_cmp}
use Rattle.cs_pmap.proofs.AtBranch.{key_cmp_total}
use Rattle.cs_pmap.specs.Many.{insert_all}
use Rattle.cs_store.proofs.Keys.{same_key}
use Rattle.cs_terms.specs.declared.symbol.Sym.{Sym}
use Rattle.cs_state.specs.ReadCells.{SymMap, ReadMap, AreOffsets, HasPlainCells, cells_of, keyed}

module _ {V : Type 0} where
  -- what is found after an insertion was there, or is what was inserted at its key
  found_then : (P : ℕ × ℕ → V → Type 0) (m : finite.FinMap key_cmp V) (number : ℕ) (new : V) → P (number, 0) new
      → ((key : ℕ × ℕ) (value : V) → finite.get m key ≡ Some value → P key value) → (key : ℕ × ℕ) (value : V)
      → finite.get (finite.insert m (number, 0) new) key ≡ Some value → P key value
  found_then P m number new here all key value e =
      by (eq_by_cmp key_cmp key (number, 0)) refl (sym (finite.get-insert key_cmp_total m (number, 0) new key) ∙ e)
    where
      by : (t : Bool) → eq_by_cmp key_cmp key (number, 0) ≡ t → cond (eq_by_cmp key_cmp key (number, 0)) (Some new) (finite.get m key) ≡ Some value
          → P key value
      by true t is =
          subst (λ (k : ℕ × ℕ). P k value) (sym (same_key key (number, 0) t))
          (subst (P (number, 0)) (same_Some new value (rw t at is)) here)
      by false t is = all key value (rw t at is)

  -- what remains after a removal was there
  pub left_then : (m : finite.FinMap key_cmp V) (k key : ℕ × ℕ) (value : V) → finite.get (finite.remove m k) key ≡ Some value
      → finite.get m key ≡ Some value
  left_then m k key value e = by (eq_by_cmp key_cmp key k) (sym (finite.get-remove key_cmp_total m k key) ∙ e)
    where
      by : (t : Bool) → cond t None (finite.get m key) ≡ Some value → finite.get m key ≡ Some value
      by true here = absurd (none-some value here)
      by false here = here

-- the cells of a base region
pub offsets_none : AreOffsets finite.empty
offsets_none key symbol e = absurd (none-some symbol (sym (finite.get-empty {X = Sym} key_cmp key) ∙ e))

pub offsets_added : (cells : SymMap) (offset : ℕ) (symbol : Sym) → AreOffsets cells → AreOffsets (finite.insert cells (offset, 0) symbol)
offsets_added cells offset symbol are = found_then (λ key s. key.1 ≡ 0) cells offset symbol refl are

pub offsets_all_added : (more : List (ℕ × Sym)) (cells : SymMap) → AreOffsets cells → AreOffsets (insert_all cells (keyed more))
offsets_all_added [] cells are = are
offsets_all_added (one ∷ more) cells are =
    offsets_all_added more (finite.insert cells (one.0, 0) one.1) (offsets_added cells one.0 one.1 are)

pub offsets_less : (cells fewer : SymMap) → ((key : ℕ × ℕ) (symbol : Sym) → finite.get fewer key ≡ Some symbol → finite.get cells key ≡ Some symbol)
    → AreOffsets cells → AreOffsets fewer
offsets_less cells fewer kept are key symbol e = are key symbol (kept key symbol e)

-- those of all base regions
pub plain_none : HasPlainCells finite.empty
plain_none key cells e = absurd (none-some cells (sym (finite.get-empty {X = SymMap} key_cmp key) ∙ e))

pub plain_added : (read : ReadMap) (base : ℕ) (cells : SymMap) → AreOffsets cells → HasPlainCells read
    → HasPlainCells (finite.insert read (base, 0) cells)
plain_added read base cells are plain = found_then (λ key found. (key.1 ≡ 0) × AreOffsets found) read base cells (refl, are) plain

pub plain_less : (read fewer : ReadMap) → ((key : ℕ × ℕ) (cells : SymMap) → finite.get fewer key ≡ Some cells → finite.get read key ≡ Some cells)
    → HasPlainCells read → HasPlainCells fewer
plain_less read fewer kept plain key cells e = plain key cells (kept key cells e)

pub plain_of : (read : ReadMap) (base : ℕ) → HasPlainCells read → AreOffsets (cells_of read base)
plain_of read base plain = by (finite.get read (base, 0)) (λ cells e. (plain (base, 0) cells e).1)
  where
    by : (found : Option SymMap) → ((cells : SymMap) → found ≡ Some cells → AreOffsets cells) → AreOffsets (unwrap_or found finite.empty)
    by None some = offsets_none
    by (Some cells) some = some cells refl
