-- A store keeps only the regions that hold something: for the invariant of `Store`.
use Rattle.std.proofs.Common.{◌≡◌, ◌==◌, ℕ, Bool, true, false, cond, nat_eq, List, [], ◌∷◌, length, refl, sym, ap, ◌∙◌, subst}
use Rattle.std.specs.Prelude.{◌≢◌, Option, None, Some}
use Rattle.std.specs.FinMap as finite
use Rattle.std.specs.Option.{option_map_or, option_or, unwrap_or}
use Rattle.std.specs.Ordering.{eq_by_cmp}
use Rattle.std.specs.Cmp.{nat_eq_equiv}
use Rattle.std.proofs.lemmas.Bool.{false≢true}
use Rattle.std.proofs.lemmas.Option.{none-some, same_Some}
use Rattle.cs_pmap.specs.Keys.{key_cmp}
use Rattle.cs_pmap.proofs.AtBranch.{key_cmp_total}
use Rattle.cs_store.specs.declared.value.Value.{Value}
use Rattle.cs_store.specs.declared.value.Fill.{Fill}
use Rattle.cs_store.specs.declared.value.Fill.TheVariants.{Unset}
use Rattle.cs_store.specs.declared.value.Binding.{Binding}
use Rattle.cs_store.specs.declared.value.Binding.TheVariants as found
use Rattle.cs_store.specs.Contents.{Contents, HasOffsets, HoldsNothing, after_leaves, filled, held_in, last_leaf}
use Rattle.cs_store.specs.Held.{Regions, AreInUse, HasPlainKeys, held}
use Rattle.cs_store.proofs.Keys.{same_key, key_itself, no_offsets, other_key}
use Rattle.cs_store.proofs.Regions.{held_filled, same_lookup, no_lookup}

-- a region with a direct binding holds something
pub bound_something : (contents : Contents) (o : ℕ) (v : Value) → held_in contents o ≡ found.Direct v → ¬ HoldsNothing contents
bound_something contents o v e nothing = other (sym e ∙ nothing o)
  where
    other : found.Direct v ≡ found.Fill Unset → ⊥
    other e = absurd (cc)

-- and so does one with a fill other than unset
pub filled_something : (fill : Fill) → fill ≢ Unset → ¬ HoldsNothing (filled fill)
filled_something fill differ nothing = differ (same (sym (held_filled fill 0) ∙ nothing 0))
  where
    same : found.Fill fill ≡ found.Fill Unset → fill ≡ Unset
    same e = cc

-- and one with bound leaves
pub leaves_something : (leaves : List (ℕ × Value)) (contents : Contents) (before : ℕ → Binding) → false ≡ (length leaves == 0)
    → ((o : ℕ) → held_in contents o ≡ after_leaves leaves o (before o)) → ¬ HoldsNothing contents
leaves_something [] contents before some e = absurd (false≢true some)
leaves_something (leaf ∷ leaves) contents before some e =
    let last = by (last_leaf leaves leaf.0) in
    bound_something contents leaf.0 last.0 (e leaf.0 ∙ last.1)
  where
    by : (later : Option Value)
        → (v : Value) × (option_map_or (λ value. found.Direct value) (option_or later (cond (nat_eq leaf.0 leaf.0) (Some leaf.1) None)) (before leaf.0)
        ≡ found.Direct v)
    by (Some w) = (w, refl)
    by None = (
      leaf.1,
      ap (λ t. option_map_or (λ value. found.Direct value) (cond t (Some leaf.1) None) (before leaf.0)) (nat_eq_equiv.refl leaf.0),
    )

pub in_use_empty : AreInUse finite.empty
in_use_empty key contents e = absurd (none-some contents (sym (finite.get-empty {X = Contents} key_cmp key) ∙ e))

pub in_use_insert : (store : Regions) (base : ℕ) (new : Contents) → AreInUse store → ¬ HoldsNothing new → HasOffsets new.direct
    → AreInUse (finite.insert store (base, 0) new)
in_use_insert store base new all some plain key contents e =
    by (eq_by_cmp key_cmp key (base, 0)) refl (sym (finite.get-insert key_cmp_total store (base, 0) new key) ∙ e)
  where
    by : (t : Bool) → eq_by_cmp key_cmp key (base, 0) ≡ t → cond (eq_by_cmp key_cmp key (base, 0)) (Some new) (finite.get store key) ≡ Some contents
        → (key.1 ≡ 0) × ¬ HoldsNothing contents × HasOffsets contents.direct
    by true t here = (
      ap (λ (p : ℕ × ℕ). p.1) (same_key key (base, 0) t),
      subst (λ (z : Contents). ¬ HoldsNothing z) (same_Some new contents (rw t at here)) some,
      subst (λ (z : Contents). HasOffsets z.direct) (same_Some new contents (rw t at here)) plain,
    )
    by false t here = all key contents (rw t at here)

-- fewer regions
pub in_use_less : (store fewer : Regions)
    → ((key : ℕ × ℕ) (contents : Contents) → finite.get fewer key ≡ Some contents → finite.get store key ≡ Some contents)
    → AreInUse store → AreInUse fewer
in_use_less store fewer kept all key contents e = all key contents (kept key contents e)

-- what remains after a removal was there
pub left_was_there : (store : Regions) (k key : ℕ × ℕ) (contents : Contents) → finite.get (finite.remove store k) key ≡ Some contents
    → finite.get store key ≡ Some contents
left_was_there store k key contents e = by (eq_by_cmp key_cmp key k) (sym (finite.get-remove key_cmp_total store k key) ∙ e)
  where
    by : (t : Bool) → cond t None (finite.get store key) ≡ Some contents → finite.get store key ≡ Some contents
    by true here = absurd (none-some contents here)
    by false here = here

-- a region that was removed holds nothing, and any other one what it held before
pub held_removed : (store : Regions) (b o : ℕ) → held (finite.remove store (b, 0)) b o ≡ found.Fill Unset
held_removed store b o =
    no_lookup (finite.remove store (b, 0)) b o (finite.get-remove key_cmp_total store (b, 0) (b, 0)
    ∙ ap (λ t. cond t None (finite.get store (b, 0))) (key_itself (b, 0)))

pub held_left : (store : Regions) (b c o : ℕ) → c ≢ b → held (finite.remove store (b, 0)) c o ≡ held store c o
held_left store b c o differ =
    same_lookup (finite.remove store (b, 0)) store c o (finite.get-remove key_cmp_total store (b, 0) (c, 0)
    ∙ ap (λ t. cond t None (finite.get store (c, 0))) (other_key c b differ))

-- regions in use have plain keys
pub plain_keys : (store : Regions) → AreInUse store → HasPlainKeys store
plain_keys store all = record {
  regions = λ key contents e. (all key contents e).0;
  bindings = λ base. by (finite.get store (base, 0)) (λ contents e. (all (base, 0) contents e).2);
}
  where
    by : (found : Option Contents) → ((contents : Contents) → found ≡ Some contents → HasOffsets contents.direct)
        → HasOffsets (unwrap_or found (filled Unset)).direct
    by None some = no_offsets
    by (Some contents) some = some contents refl
