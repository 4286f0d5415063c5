-- Keys whose second number is 0: for the contracts of `Region` and of `Store`.
use Rattle.std.proofs.Common.{◌≡◌, ℕ, Bool, true, false, cond, refl, sym, ap, ◌∙◌, true≢false}
use Rattle.std.specs.Prelude.{Some, is_some, IsTrue, ◌≢◌}
use Rattle.std.specs.Ordering.{eq_by_cmp, is_eq}
use Rattle.std.specs.declared.cmp.Ordering.{Ordering}
use Rattle.std.specs.declared.cmp.Ordering.TheVariants.{Less, Equal, Greater}
use Rattle.std.specs.Cmp.{eq_by_cmp_equiv}
use Rattle.std.specs.FinMap as finite
use Rattle.cs_pmap.specs.Keys.{key_cmp}
use Rattle.cs_pmap.proofs.AtBranch.{key_cmp_total}
use Rattle.cs_pmap.proofs.FiniteMap.{key_cmp_exact}
use Rattle.cs_store.specs.declared.value.Value.{Value}
use Rattle.cs_store.specs.Contents.{HasOffsets}

pub equal_from_eq : (r : Ordering) → is_eq r ≡ true → r ≡ Equal
equal_from_eq Less e = cc
equal_from_eq Equal e = refl
equal_from_eq Greater e = cc

pub same_key : (k q : ℕ × ℕ) → eq_by_cmp key_cmp k q ≡ true → k ≡ q
same_key k q e = key_cmp_exact k q (equal_from_eq (key_cmp k q) e)

pub key_itself : (k : ℕ × ℕ) → eq_by_cmp key_cmp k k ≡ true
key_itself k = (eq_by_cmp_equiv key_cmp_total).refl k

false_from_other : (b : Bool) → (b ≡ true → ⊥) → b ≡ false
false_from_other true h = absurd (h refl)
false_from_other false h = refl

pub other_key : (b c : ℕ) → b ≢ c → eq_by_cmp key_cmp (b, 0) (c, 0) ≡ false
other_key b c differ =
    let k : ℕ × ℕ = (b, 0) in
    let q : ℕ × ℕ = (c, 0) in
    false_from_other (eq_by_cmp key_cmp k q) (λ e. differ (ap (λ (p : ℕ × ℕ). p.0) (same_key k q e)))

module _ {V : Type 0} where
  pub get_here : (m : finite.FinMap key_cmp V) (b : ℕ) (v : V) → finite.get (finite.insert m (b, 0) v) (b, 0) ≡ Some v
  get_here m b v =
      finite.get-insert key_cmp_total m (b, 0) v (b, 0) ∙ ap (λ t. cond t (Some v) (finite.get m (b, 0))) (key_itself (b, 0))

  pub get_elsewhere : (m : finite.FinMap key_cmp V) (b c : ℕ) (v : V) → c ≢ b → finite.get (finite.insert m (b, 0) v) (c, 0) ≡ finite.get m (c, 0)
  get_elsewhere m b c v differ =
      finite.get-insert key_cmp_total m (b, 0) v (c, 0) ∙ ap (λ t. cond t (Some v) (finite.get m (c, 0))) (other_key c b differ)

pub no_offsets : HasOffsets finite.empty
no_offsets key there = absurd (true≢false (sym there ∙ ap is_some (finite.get-empty {X = Value} key_cmp key)))

pub more_offsets : (m : finite.FinMap key_cmp Value) (offset : ℕ) (value : Value) → HasOffsets m → HasOffsets (finite.insert m (offset, 0) value)
more_offsets m offset value all key there =
    by (eq_by_cmp key_cmp key (offset, 0)) refl (rw (finite.get-insert key_cmp_total m (offset, 0) value key) at there)
  where
    by : (b : Bool) → eq_by_cmp key_cmp key (offset, 0) ≡ b → IsTrue (is_some (cond (eq_by_cmp key_cmp key (offset, 0)) (Some value) (finite.get m key)))
        → key.1 ≡ 0
    by true t here = ap (λ (p : ℕ × ℕ). p.1) (same_key key (offset, 0) t)
    by false t here = all key (rw t at here)
