-- Leaves that are bound at once, base regions that are removed one by one, writes that are done one by one: for the contracts of
-- `with_leaves`, `without` and `replayed`.
use Rattle.std.proofs.Common.{◌≡◌, ℕ, Bool, true, false, cond, nat_eq, ◌||◌, ◌+◌, ◌<◌, List, [], drop, get_or, length, ◌∷◌, refl, sym, ap}
use Rattle.std.proofs.Common.{◌∙◌}
use Rattle.std.specs.Prelude.{Option, None, Some}
use Rattle.std.specs.Option.{unwrap_or, option_map_or, option_or}
use Rattle.std.proofs.lemmas.Bool.Decides.{eqb_tells}
use Rattle.std.proofs.Common.{inl, inr}
use Rattle.std.proofs.lemmas.List.{drop_more}
use Rattle.std.specs.Ordering.{eq_by_cmp}
use Rattle.std.specs.List.{list_any}
use Rattle.std.specs.FinMap.{FinMap, get, insert, remove, get-remove}
use Rattle.cs_pmap.specs.Keys.{EntryList, key_cmp}
use Rattle.cs_pmap.specs.Many.{insert_all}
use Rattle.cs_pmap.proofs.AtBranch.{key_cmp_total}
use Rattle.cs_store.proofs.Keys.{key_itself, other_key, more_offsets}
use Rattle.cs_store.specs.declared.write.Write.{Write}
use Rattle.cs_store.specs.Writes.{decided, last_decided}
use Rattle.cs_store.specs.declared.value.Value.{Value}
use Rattle.cs_store.specs.declared.value.Binding.{Binding}
use Rattle.cs_store.specs.declared.value.Binding.TheVariants.{Direct}
use Rattle.cs_store.specs.Contents.{Contents, HasOffsets, held_in, with_binding, keyed, after_leaves, last_leaf}
use Rattle.cs_store.proofs.Regions.{bound_here, bound_elsewhere}

-- a choice between two options, with a default
pub chosen : {A B : Type 0} (f : A → B) (p q : Option A) (d : B) → option_map_or f (option_or p q) d ≡ option_map_or f p (option_map_or f q d)
chosen f None q d = refl
chosen f (Some x) q d = refl

pub unwrapped : {A : Type 0} (p q : Option A) (d : A) → unwrap_or (option_or p q) d ≡ unwrap_or p (unwrap_or q d)
unwrapped None q d = refl
unwrapped (Some x) q d = refl

pub taken_out : {A : Type 0} (one rest : Bool) (held : Option A) → cond rest None (cond one None held) ≡ cond (one || rest) None held
taken_out true true held = refl
taken_out true false held = refl
taken_out false rest held = refl

bound : (old : Contents) (at : ℕ) (v : Value) (o : ℕ)
    → held_in (with_binding old at v) o ≡ option_map_or (λ value. Direct value) (cond (nat_eq at o) (Some v) None) (held_in old o)
bound old at v o =
    elim (eqb_tells at o) [
      | inl same ↦ ap (held_in (with_binding old at v)) (sym same.1) ∙ bound_here old at v
          ∙ ap (λ t. option_map_or (λ value. Direct value) (cond t (Some v) None) (held_in old o)) (sym same.0)
      | inr other ↦ bound_elsewhere old at o v (λ e. other.1 (sym e))
          ∙ ap (λ t. option_map_or (λ value. Direct value) (cond t (Some v) None) (held_in old o)) (sym other.0)
    ]

-- the first leaf can be bound before the others
pub leaf_first : (leaf : ℕ × Value) (leaves : List (ℕ × Value)) (old : Contents) (o : ℕ)
    → after_leaves leaves o (held_in (with_binding old leaf.0 leaf.1) o) ≡ after_leaves (leaf ∷ leaves) o (held_in old o)
leaf_first leaf leaves old o =
    ap (after_leaves leaves o) (bound old leaf.0 leaf.1 o)
    ∙ sym (chosen (λ value. Direct value) (last_leaf leaves o) (cond (nat_eq leaf.0 o) (Some leaf.1) None) (held_in old o))

-- binding leaves all at once binds them one by one; `start`, `entries` and `direct` are those of the call
leaves_inserted : (leaves : List (ℕ × Value)) (old : Contents) (o : ℕ)
    → held_in (record { fill = old.fill; direct = insert_all old.direct (keyed leaves) }) o ≡ after_leaves leaves o (held_in old o)
leaves_inserted [] old o = refl
leaves_inserted (leaf ∷ leaves) old o = leaves_inserted leaves (with_binding old leaf.0 leaf.1) o ∙ leaf_first leaf leaves old o

pub leaves_bound : {start direct : FinMap key_cmp Value} {entries : EntryList Value} (leaves : List (ℕ × Value)) (old : Contents)
    → start ≡ old.direct → entries ≡ keyed leaves → direct ≡ insert_all start entries → (o : ℕ)
    → held_in (record { fill = old.fill; direct = direct }) o ≡ after_leaves leaves o (held_in old o)
leaves_bound leaves old s e d o = rw (d, s, e) (leaves_inserted leaves old o)

leaves_have_offsets : (leaves : List (ℕ × Value)) (direct : FinMap key_cmp Value) → HasOffsets direct → HasOffsets (insert_all direct (keyed leaves))
leaves_have_offsets [] direct h = h
leaves_have_offsets (leaf ∷ leaves) direct h =
    leaves_have_offsets leaves (insert direct (leaf.0, 0) leaf.1) (more_offsets direct leaf.0 leaf.1 h)

pub offsets_bound : {start direct : FinMap key_cmp Value} {entries : EntryList Value} (leaves : List (ℕ × Value)) (old : FinMap key_cmp Value)
    → start ≡ old → entries ≡ keyed leaves → direct ≡ insert_all start entries → HasOffsets old → HasOffsets direct
offsets_bound leaves old s e d h = rw (d, s, e) (leaves_have_offsets leaves old h)

pub key_test : (b c : ℕ) → eq_by_cmp key_cmp (b, 0) (c, 0) ≡ nat_eq b c
key_test b c =
    elim (eqb_tells b c) [
      | inl same ↦ ap (λ (x : ℕ). eq_by_cmp key_cmp (b, 0) (x, 0)) (sym same.1) ∙ key_itself (b, 0) ∙ sym same.0
      | inr other ↦ other_key b c other.1 ∙ sym other.0
    ]

-- one more base region was removed
pub bases_step : {V : Type 0} (bases : List ℕ) (i : ℕ) (m : FinMap key_cmp V) (b : ℕ) → i < length bases
    → cond (list_any (λ x. nat_eq b x) (drop (i + 1) bases)) None (get (remove m (get_or bases i 0, 0)) (b, 0))
    ≡ cond (list_any (λ x. nat_eq b x) (drop i bases)) None (get m (b, 0))
bases_step bases i m b more =
    let base = get_or bases i 0 in
    let rest = list_any (λ x. nat_eq b x) (drop (i + 1) bases) in
    ap (λ held. cond rest None held) (get-remove key_cmp_total m (base, 0) (b, 0) ∙ ap (λ t. cond t None (get m (b, 0))) (key_test b base))
    ∙ taken_out (nat_eq b base) rest (get m (b, 0))
    ∙ ap (λ bs. cond (list_any (λ x. nat_eq b x) bs) None (get m (b, 0))) (sym (drop_more bases i 0 more))

-- one more write was done
pub writes_step : (writes : List Write) (i : ℕ) (d : Write) (b o : ℕ) (before : Binding) → i < length writes
    → unwrap_or (last_decided (drop (i + 1) writes) b o) (unwrap_or (decided (get_or writes i d) b o) before)
    ≡ unwrap_or (last_decided (drop i writes) b o) before
writes_step writes i d b o before more =
    sym (unwrapped (last_decided (drop (i + 1) writes) b o) (decided (get_or writes i d) b o) before)
    ∙ ap (λ ws. unwrap_or (last_decided ws b o) before) (sym (drop_more writes i d more))
