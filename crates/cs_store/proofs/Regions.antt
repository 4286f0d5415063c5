-- What is held after one region or one binding is replaced: for the contracts of `Store`.
use Rattle.std.proofs.Common.{◌≡◌, ◌⊎◌, ℕ, Bool, true, false, cond, refl, sym, ap, ◌∙◌, subst, inl, inr, nat_eq, List, true≢false}
use Rattle.std.specs.Prelude.{None, Some, ◌≢◌}
use Rattle.std.specs.Option.{unwrap_or, option_map_or}
use Rattle.std.specs.FinMap as finite
use Rattle.std.specs.List.{Contains, list_any}
use Rattle.std.specs.Cmp.{nat_eq_equiv}
use Rattle.std.proofs.lemmas.Bool.{eqb-true}
use Rattle.std.proofs.lemmas.Map.Views.{list_any-from_Contains, Contains-from_any}
use Rattle.std.proofs.lemmas.Bool.Decides.{eqb_tells}
use Rattle.cs_store.specs.declared.value.Value.{Value}
use Rattle.cs_store.specs.declared.value.Fill.TheVariants.{Unset}
use Rattle.cs_store.specs.declared.value.Fill.{Fill}
use Rattle.cs_store.specs.declared.value.Binding.{Binding}
use Rattle.cs_store.specs.declared.value.Binding.TheVariants as found
use Rattle.cs_pmap.specs.Keys.{key_cmp}
use Rattle.cs_store.specs.Contents.{Contents, filled, held_in, with_binding}
use Rattle.cs_store.specs.Held.{Regions, contents_of, held}
use Rattle.cs_store.proofs.Keys.{get_here, get_elsewhere}

pub held_filled : (fill : Fill) (o : ℕ) → held_in (filled fill) o ≡ found.Fill fill
held_filled fill o = ap (λ bound. option_map_or (λ value. found.Direct value) bound (found.Fill fill)) (finite.get-empty key_cmp (o, 0))

pub held_nothing : (b o : ℕ) → held finite.empty b o ≡ found.Fill Unset
held_nothing b o = ap (λ c. held_in (unwrap_or c (filled Unset)) o) (finite.get-empty {X = Contents} key_cmp (b, 0)) ∙ held_filled Unset o

pub contents_here : (m : Regions) (b : ℕ) (new : Contents) → contents_of (finite.insert m (b, 0) new) b ≡ new
contents_here m b new = ap (λ o. unwrap_or o (filled Unset)) (get_here m b new)

pub contents_elsewhere : (m : Regions) (b c : ℕ) (new : Contents) → c ≢ b → contents_of (finite.insert m (b, 0) new) c ≡ contents_of m c
contents_elsewhere m b c new differ = ap (λ o. unwrap_or o (filled Unset)) (get_elsewhere m b c new differ)

pub bound_here : (old : Contents) (o : ℕ) (v : Value) → held_in (with_binding old o v) o ≡ found.Direct v
bound_here old o v = ap (λ bound. option_map_or (λ value. found.Direct value) bound (found.Fill old.fill)) (get_here old.direct o v)

pub bound_elsewhere : (old : Contents) (o p : ℕ) (v : Value) → p ≢ o → held_in (with_binding old o v) p ≡ held_in old p
bound_elsewhere old o p v differ =
    ap (λ bound. option_map_or (λ value. found.Direct value) bound (found.Fill old.fill)) (get_elsewhere old.direct o p v differ)

pub held_here : (m : Regions) (b o : ℕ) (new : Contents) → held (finite.insert m (b, 0) new) b o ≡ held_in new o
held_here m b o new = ap (λ contents. held_in contents o) (contents_here m b new)

pub held_elsewhere : (m : Regions) (b c o : ℕ) (new : Contents) → c ≢ b → held (finite.insert m (b, 0) new) c o ≡ held m c o
held_elsewhere m b c o new differ = ap (λ contents. held_in contents o) (contents_elsewhere m b c new differ)

pub bind_elsewhere : (m : Regions) (base offset : ℕ) (v : Value) (b o : ℕ) → (b ≢ base) ⊎ (o ≢ offset)
    → held (finite.insert m (base, 0) (with_binding (contents_of m base) offset v)) b o ≡ held m b o
bind_elsewhere m base offset v b o (inl differ) = held_elsewhere m base b o (with_binding (contents_of m base) offset v) differ
bind_elsewhere m base offset v b o (inr differ) =
    elim (eqb_tells b base) [
      | inl same ↦
          let new = with_binding (contents_of m base) offset v in
          subst (λ (c : ℕ). held (finite.insert m (base, 0) new) c o ≡ held m c o) (sym same.1)
          (held_here m base o new ∙ bound_elsewhere (contents_of m base) offset o v differ)
      | inr other ↦ held_elsewhere m base b o (with_binding (contents_of m base) offset v) other.1
    ]

pub same_lookup : (m n : Regions) (b o : ℕ) → finite.get m (b, 0) ≡ finite.get n (b, 0) → held m b o ≡ held n b o
same_lookup m n b o e = ap (λ c. held_in (unwrap_or c (filled Unset)) o) e

pub no_lookup : (m : Regions) (b o : ℕ) → finite.get m (b, 0) ≡ None → held m b o ≡ found.Fill Unset
no_lookup m b o e = ap (λ c. held_in (unwrap_or c (filled Unset)) o) e ∙ held_filled Unset o

pub found_in : (bases : List ℕ) (b : ℕ) → Contains bases b → list_any (λ x. nat_eq b x) bases ≡ true
found_in bases b there = list_any-from_Contains nat_eq_equiv b bases there

pub absent_from : (bases : List ℕ) (b : ℕ) → (Contains bases b → ⊥) → list_any (λ x. nat_eq b x) bases ≡ false
absent_from bases b absent = by (list_any (λ x. nat_eq b x) bases) refl
  where
    by : (t : Bool) → list_any (λ x. nat_eq b x) bases ≡ t → list_any (λ x. nat_eq b x) bases ≡ false
    by true found = absurd (absent (Contains-from_any eqb-true b bases found))
    by false none = none

-- a base region holds nothing if it was dropped, and otherwise what it held before
pub dropped_or_kept : (bases : List ℕ) (b : ℕ) (new old : Binding) → (Contains bases b → new ≡ found.Fill Unset)
    → ((Contains bases b → ⊥) → new ≡ old)
    → new ≡ unwrap_or (cond (list_any (λ x. nat_eq b x) bases) (Some (found.Fill Unset)) None) old
dropped_or_kept bases b new old dropped kept = by (list_any (λ x. nat_eq b x) bases) refl
  where
    by : (t : Bool) → list_any (λ x. nat_eq b x) bases ≡ t
        → new ≡ unwrap_or (cond (list_any (λ x. nat_eq b x) bases) (Some (found.Fill Unset)) None) old
    by true t = rw t (dropped (Contains-from_any eqb-true b bases t))
    by false t = rw t (kept (λ there. true≢false (sym (found_in bases b there) ∙ t)))
