-- The cells that were read, after one more is read or one is written: for the contracts of `ReadCells`.
use Rattle.std.proofs.Common.{◌≡◌, ◌≢◌, ◌⊎◌, ℕ, nat_eq, ◌+◌, ◌<◌, List, [], ◌∷◌, drop, get_or, length, Bool, true, false, cond}
use Rattle.std.proofs.Common.{refl, sym, ap, ◌∙◌, subst, inl, inr}
use Rattle.std.specs.Prelude.{Option, None, Some}
use Rattle.std.specs.Option.{unwrap_or, option_or}
use Rattle.std.proofs.lemmas.List.{drop_more}
use Rattle.std.specs.FinMap as finite
use Rattle.std.proofs.lemmas.Bool.Decides.{eqb_tells}
use Rattle.cs_pmap.specs.Keys.{key_cmp}
use Rattle.cs_pmap.proofs.AtBranch.{key_cmp_total}
use Rattle.cs_pmap.specs.Many.{insert_all}
use Rattle.cs_store.proofs.Leaves.{key_test, taken_out}
use Rattle.cs_store.specs.declared.value.Value.{Value}
use Rattle.cs_store.proofs.Keys.{get_here, get_elsewhere, other_key, key_itself}
use Rattle.cs_terms.specs.declared.symbol.Sym.{Sym}
use Rattle.cs_state.specs.ReadCells.{SymMap, ReadMap, cells_of, read_at, keyed, last_read, has_leaf}

pub read_nothing : (base offset : ℕ) → read_at finite.empty base offset ≡ None
read_nothing base offset =
    ap (λ found. finite.get (unwrap_or found finite.empty) (offset, 0)) (finite.get-empty {X = SymMap} key_cmp (base, 0))
    ∙ finite.get-empty {X = Sym} key_cmp (offset, 0)

pub read_missing : (m : ReadMap) (base offset : ℕ) → finite.get m (base, 0) ≡ None → read_at m base offset ≡ None
read_missing m base offset none =
    ap (λ found. finite.get (unwrap_or found finite.empty) (offset, 0)) none ∙ finite.get-empty {X = Sym} key_cmp (offset, 0)

module _ {V : Type 0} where
  pub gone_here : (m : finite.FinMap key_cmp V) (b : ℕ) → finite.get (finite.remove m (b, 0)) (b, 0) ≡ None
  gone_here m b = finite.get-remove key_cmp_total m (b, 0) (b, 0) ∙ ap (λ t. cond t None (finite.get m (b, 0))) (key_itself (b, 0))

  pub gone_elsewhere : (m : finite.FinMap key_cmp V) (b c : ℕ) → c ≢ b → finite.get (finite.remove m (b, 0)) (c, 0) ≡ finite.get m (c, 0)
  gone_elsewhere m b c differ =
      finite.get-remove key_cmp_total m (b, 0) (c, 0) ∙ ap (λ t. cond t None (finite.get m (c, 0))) (other_key c b differ)

pub cells_here : (m : ReadMap) (b : ℕ) (cells : SymMap) → cells_of (finite.insert m (b, 0) cells) b ≡ cells
cells_here m b cells = ap (λ found. unwrap_or found finite.empty) (get_here m b cells)

pub cells_elsewhere : (m : ReadMap) (b c : ℕ) (cells : SymMap) → c ≢ b → cells_of (finite.insert m (b, 0) cells) c ≡ cells_of m c
cells_elsewhere m b c cells differ = ap (λ found. unwrap_or found finite.empty) (get_elsewhere m b c cells differ)

-- one cell of a base region has changed, and no other one
pub read_elsewhere : (m : ReadMap) (base offset : ℕ) (cells : SymMap) (b o : ℕ)
    → (o ≢ offset → finite.get cells (o, 0) ≡ finite.get (cells_of m base) (o, 0)) → (b ≢ base) ⊎ (o ≢ offset)
    → read_at (finite.insert m (base, 0) cells) b o ≡ read_at m b o
read_elsewhere m base offset cells b o kept (inl differ) = ap (λ found. finite.get found (o, 0)) (cells_elsewhere m base b cells differ)
read_elsewhere m base offset cells b o kept (inr differ) =
    elim (eqb_tells b base) [
      | inl same ↦
          subst (λ (c : ℕ). read_at (finite.insert m (base, 0) cells) c o ≡ read_at m c o) (sym same.1)
          (ap (λ found. finite.get found (o, 0)) (cells_here m base cells) ∙ kept differ)
      | inr other ↦ ap (λ found. finite.get found (o, 0)) (cells_elsewhere m base b cells other.1)
    ]

pub added_here : (m : ReadMap) (base offset : ℕ) (sym : Sym)
    → read_at (finite.insert m (base, 0) (finite.insert (cells_of m base) (offset, 0) sym)) base offset ≡ Some sym
added_here m base offset sym =
    ap (λ found. finite.get found (offset, 0)) (cells_here m base (finite.insert (cells_of m base) (offset, 0) sym))
    ∙ get_here (cells_of m base) offset sym

pub added_elsewhere : (m : ReadMap) (base offset : ℕ) (sym : Sym) (b o : ℕ) → (b ≢ base) ⊎ (o ≢ offset)
    → read_at (finite.insert m (base, 0) (finite.insert (cells_of m base) (offset, 0) sym)) b o ≡ read_at m b o
added_elsewhere m base offset sym b o differ =
    read_elsewhere m base offset (finite.insert (cells_of m base) (offset, 0) sym) b o (get_elsewhere (cells_of m base) offset o sym) differ

pub forgotten_here : (m : ReadMap) (base offset : ℕ)
    → read_at (finite.insert m (base, 0) (finite.remove (cells_of m base) (offset, 0))) base offset ≡ None
forgotten_here m base offset =
    ap (λ found. finite.get found (offset, 0)) (cells_here m base (finite.remove (cells_of m base) (offset, 0)))
    ∙ gone_here (cells_of m base) offset

pub forgotten_elsewhere : (m : ReadMap) (base offset : ℕ) (b o : ℕ) → (b ≢ base) ⊎ (o ≢ offset)
    → read_at (finite.insert m (base, 0) (finite.remove (cells_of m base) (offset, 0))) b o ≡ read_at m b o
forgotten_elsewhere m base offset b o differ =
    read_elsewhere m base offset (finite.remove (cells_of m base) (offset, 0)) b o (gone_elsewhere (cells_of m base) offset o) differ

pub all_gone_here : (m : ReadMap) (base offset : ℕ) → read_at (finite.remove m (base, 0)) base offset ≡ None
all_gone_here m base offset = read_missing (finite.remove m (base, 0)) base offset (gone_here m base)

pub all_gone_elsewhere : (m : ReadMap) (base b o : ℕ) → b ≢ base → read_at (finite.remove m (base, 0)) b o ≡ read_at m b o
all_gone_elsewhere m base b o differ = ap (λ found. finite.get (unwrap_or found finite.empty) (o, 0)) (gone_elsewhere m base b differ)

pub same_cells : (m n : ReadMap) (b o : ℕ) → finite.get m (b, 0) ≡ finite.get n (b, 0) → read_at m b o ≡ read_at n b o
same_cells m n b o same = ap (λ found. finite.get (unwrap_or found finite.empty) (o, 0)) same

either_way : (p : Option Sym) (t : Bool) (v : Sym) (d : Option Sym)
    → option_or p (cond t (Some v) d) ≡ option_or (option_or p (cond t (Some v) None)) d
either_way (Some x) t v d = refl
either_way None true v d = refl
either_way None false v d = refl

-- adding several cells at once adds them one by one
get-keyed : (cells : List (ℕ × Sym)) (m : SymMap) (o : ℕ)
    → finite.get (insert_all m (keyed cells)) (o, 0) ≡ option_or (last_read cells o) (finite.get m (o, 0))
get-keyed [] m o = refl
get-keyed (cell ∷ cells) m o =
    get-keyed cells (finite.insert m (cell.0, 0) cell.1) o
    ∙ ap (option_or (last_read cells o)) (finite.get-insert key_cmp_total m (cell.0, 0) cell.1 (o, 0)
    ∙ ap (λ t. cond t (Some cell.1) (finite.get m (o, 0))) (key_test o cell.0))
    ∙ either_way (last_read cells o) (nat_eq o cell.0) cell.1 (finite.get m (o, 0))

pub all_added_here : (m : ReadMap) (base : ℕ) (cells : List (ℕ × Sym)) (o : ℕ)
    → read_at (finite.insert m (base, 0) (insert_all (cells_of m base) (keyed cells))) base o ≡ option_or (last_read cells o) (read_at m base o)
all_added_here m base cells o =
    ap (λ found. finite.get found (o, 0)) (cells_here m base (insert_all (cells_of m base) (keyed cells))) ∙ get-keyed cells (cells_of m base) o

-- the other base regions keep their cells
pub others_keep : (m : ReadMap) (base : ℕ) (cells : SymMap) (b o : ℕ) → b ≢ base → read_at (finite.insert m (base, 0) cells) b o ≡ read_at m b o
others_keep m base cells b o differ = ap (λ found. finite.get found (o, 0)) (cells_elsewhere m base b cells differ)

-- the cell of one more leaf is removed
pub leaf_out : (leaves : List (ℕ × Value)) (i : ℕ) (d : ℕ × Value) (m : SymMap) (o : ℕ) → i < length leaves
    → cond (has_leaf (drop (i + 1) leaves) o) None (finite.get (finite.remove m ((get_or leaves i d).0, 0)) (o, 0))
    ≡ cond (has_leaf (drop i leaves) o) None (finite.get m (o, 0))
leaf_out leaves i d m o more =
    let leaf = get_or leaves i d in
    let rest = has_leaf (drop (i + 1) leaves) o in
    ap (λ held. cond rest None held) (finite.get-remove key_cmp_total m (leaf.0, 0) (o, 0) ∙ ap (λ t. cond t None (finite.get m (o, 0))) (key_test o leaf.0))
    ∙ taken_out (nat_eq o leaf.0) rest (finite.get m (o, 0))
    ∙ ap (λ ls. cond (has_leaf ls o) None (finite.get m (o, 0))) (sym (drop_more leaves i d more))

pub leaves_forgotten : (m : ReadMap) (base : ℕ) (leaves : List (ℕ × Value)) (syms : SymMap)
    → ((o : ℕ) → finite.get syms (o, 0) ≡ cond (has_leaf leaves o) None (finite.get (cells_of m base) (o, 0))) → (o : ℕ)
    → read_at (finite.insert m (base, 0) syms) base o ≡ cond (has_leaf leaves o) None (read_at m base o)
leaves_forgotten m base leaves syms out o = ap (λ found. finite.get found (o, 0)) (cells_here m base syms) ∙ out o
