-- The path of a text, and that it is unique: for `path_of` and `parse`.
use Rattle.std.proofs.Common.{◌≡◌, ℕ, ◌<◌, ◌^◌, Bool, true, not, ◌&&◌, ◌||◌, List, [], ◌∷◌, ◌++◌, ap, sym, ◌∙◌, refl}
use Rattle.std.proofs.Common.{subst}
use Rattle.std.specs.Prelude.{◌==◌, Result, Ok, Err, IsErrAnd}
use Rattle.std.specs.List.{All, list_all}
use Rattle.std.specs.Fmt.{decimal}
use Rattle.std.proofs.lemmas.List.Elements.{All-head, All-tail}
use Rattle.std.proofs.lemmas.List.Folds.{list_all-append}
use Rattle.cs_inputs.specs.declared.path.Root.{Root}
use Rattle.cs_inputs.specs.declared.path.Path.{Path}
use Rattle.cs_inputs.specs.declared.refusal.PathRefusal.{PathRefusal}
use Rattle.cs_inputs.specs.declared.refusal.PathRefusal.TheVariants.{BadPath, BadNumber, TooWide, Memory}
use Rattle.cs_inputs.specs.InputText.{IsTextOf}
use Rattle.cs_inputs.specs.PathText.{root_text, cells_text, path_text, HasText, TakesCells}
use Rattle.cs_inputs.specs.Reading.{SplitsBefore, IsRootOf, AreCellsOf, Reads}
use Rattle.cs_inputs.proofs.CellCuts.{cells_at, same_cells}
use Rattle.cs_inputs.proofs.RootTexts.{is_root_byte, root_bytes, decimal_bytes, same_root}
use Rattle.cs_inputs.proofs.Splits.{all_weaker, all_without, same_cut}

-- ---- a path's text is cut at the first `@`
pub cut_at_cells : (text : List ℕ) (path : Path) → IsTextOf text path → SplitsBefore 64 text (root_text path.root) (cells_text path.cells)
cut_at_cells text path t = record {
  whole = sym t.is;
  none = all_without is_root_byte 64 refl (root_text path.root) (root_bytes path.root t.has_text.root);
  at = cells_at path.cells;
}

module _ (text root cells : List ℕ) (cut : SplitsBefore 64 text root cells) (path : Path) (t : IsTextOf text path) where
  pub root_is : IsRootOf root path.root
  root_is = record {
    has_text = t.has_text.root;
    is = (same_cut 64 text (root_text path.root) root (cells_text path.cells) cells (cut_at_cells text path t) cut).0;
  }

  pub cells_are : AreCellsOf cells path.cells
  cells_are = record {
    fit = t.has_text.cells;
    is = (same_cut 64 text (root_text path.root) root (cells_text path.cells) cells (cut_at_cells text path t) cut).1;
  }

-- without a root, without cells, or with cells that the root can't have, there is no path
pub no_root : (text root cells : List ℕ) → SplitsBefore 64 text root cells → ((r : Root) → IsRootOf root r → ⊥)
    → (path : Path) → IsTextOf text path → ⊥
no_root text root cells cut none path t = none path.root (root_is text root cells cut path t)

pub no_cells : (text root cells : List ℕ) → SplitsBefore 64 text root cells → ((cs : List ℕ) → AreCellsOf cells cs → ⊥)
    → (path : Path) → IsTextOf text path → ⊥
no_cells text root cells cut none path t = none path.cells (cells_are text root cells cut path t)

pub not_taken : (text root cells : List ℕ) → SplitsBefore 64 text root cells → (r : Root) (cs : List ℕ) → IsRootOf root r → AreCellsOf cells cs
    → (TakesCells r cs → ⊥) → (path : Path) → IsTextOf text path → ⊥
not_taken text root cells cut r cs is are none path t =
    let roots = same_root root path.root r (root_is text root cells cut path t) is in
    let lists = same_cells cells path.cells cs (cells_are text root cells cut path t) are in
    none (subst (λ (q : Root). TakesCells q cs) roots (subst (λ (os : List ℕ). TakesCells path.root os) lists t.has_text.takes))

-- ---- a text has one path
pub same_path : (text : List ℕ) (one other : Path) → IsTextOf text one → IsTextOf text other → one ≡ other
same_path text one other r s =
    let cut = cut_at_cells text other s in
    let roots = same_root (root_text other.root) one.root other.root (root_is text (root_text other.root) (cells_text other.cells) cut one r)
    (record { has_text = s.has_text.root; is = refl }) in
    let lists = same_cells (cells_text other.cells) one.cells other.cells (cells_are text (root_text other.root) (cells_text other.cells) cut one r)
    (record { fit = s.has_text.cells; is = refl }) in
    λ i. record { root = roots i; cells = lists i }

-- ---- a path's text has no `=`
abbrev is_path_byte : ℕ → Bool
is_path_byte b = is_root_byte b || (b == 64)

root_in_path : (b : ℕ) → is_root_byte b ≡ true → is_path_byte b ≡ true
root_in_path b h = ap (λ t. t || (b == 64)) h

all_append : (xs ys : List ℕ) → list_all is_path_byte xs ≡ true → list_all is_path_byte ys ≡ true → list_all is_path_byte (xs ++ ys) ≡ true
all_append xs ys h i = list_all-append is_path_byte xs ys ∙ ap (λ t. t && list_all is_path_byte ys) h ∙ i

cells_bytes : (cells : List ℕ) → All (λ o. o < 2 ^ 64) cells → list_all is_path_byte (cells_text cells) ≡ true
cells_bytes [] fit = refl
cells_bytes (c ∷ cs) fit =
    all_append (64 ∷ decimal c) (cells_text cs)
    (all_weaker is_root_byte is_path_byte root_in_path (decimal c) (decimal_bytes c (All-head (λ o. o < 2 ^ 64) c cs fit)))
    (cells_bytes cs (All-tail (λ o. o < 2 ^ 64) c cs fit))

pub without_equals : (path : Path) → HasText path → list_all (λ b. not (b == 61)) (path_text path) ≡ true
without_equals path h =
    all_without is_path_byte 61 refl (path_text path)
    (all_append (root_text path.root) (cells_text path.cells)
    (all_weaker is_root_byte is_path_byte root_in_path (root_text path.root) (root_bytes path.root h.root)) (cells_bytes path.cells h.cells))

-- ---- an error is returned
pub passed_on : {X Y : Type 0} (P : X → Type 0) (Q : Y → Type 0) → (((x : X) → P x → ⊥) → (y : Y) → Q y → ⊥)
    → (refusal : PathRefusal) (r : Result Y PathRefusal) → Reads {X = X} P (Err refusal) → IsErrAnd r (λ e. e ≡ refusal) → Reads Q r
passed_on P Q none refusal (Ok y) h e = absurd e
passed_on P Q none BadPath (Err r) h e = subst (λ (t : PathRefusal). Reads Q (Err t)) (sym e) (none h)
passed_on P Q none BadNumber (Err r) h e = absurd h
passed_on P Q none TooWide (Err r) h e = absurd h
passed_on P Q none Memory (Err r) h e = subst (λ (t : PathRefusal). Reads Q (Err t)) (sym e) tt
