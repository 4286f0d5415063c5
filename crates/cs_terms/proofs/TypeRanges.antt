-- The numbers with a wrap quotient are an interval: for the contract of `Near::of_type`.
use Rattle.std.proofs.Common.{◌≡◌, ◌↔◌, ℕ, zero, suc, ◌^◌, ◌<◌, ◌≤◌, true, ◌&&◌, ℤ, pos, negsuc}
use Rattle.std.proofs.Common.{◌+ℤ◌, ◌-ℤ◌, ◌*ℤ◌, ◌≤ℤ◌, int_le, unsigned_abs, refl, sym, ap, ◌∙◌, arith}
use Rattle.std.specs.Prelude.{FitsSigned}
use Rattle.std.specs.Int.{w128}
use Rattle.std.proofs.lemmas.Int.{ints}
use Rattle.cs_ranges.proofs.Lines.{over_yields}
use Rattle.cs_types.specs.declared.data_model.DataModel.{DataModel}
use Rattle.cs_types.specs.declared.data_model.DataModel.TheVariants.{Lp64, Ilp32}
use Rattle.cs_types.specs.declared.int_type.IntType.{IntType}
use Rattle.cs_types.specs.declared.int_type.IntType.TheVariants.{Char, SChar, UChar, Short, UShort, Int, UInt, Long, ULong, LLong, ULLong}
use Rattle.cs_types.specs.IntType.{modulus_of, negatives_of, least_of}
use Rattle.cs_types.specs.Wrap.{floor_div, wrap_quotient}
use Rattle.cs_types.proofs.FloorDivision.{floor_div-rest, euclid-rest, floor_div-unique}
use Rattle.cs_types.proofs.Products.{negatives-small}
use Rattle.cs_types.proofs.Wrapping.{modulus-large, wrap_quotient-shifted}

-- a type has at most 2^64 numbers
pub modulus-small : (model : DataModel) (ty : IntType) → modulus_of model ty ≤ 2 ^ 64
modulus-small Lp64 Long = omega arith
modulus-small Ilp32 Long = omega arith
modulus-small Lp64 ULong = omega arith
modulus-small Ilp32 ULong = omega arith
modulus-small model Char = omega arith
modulus-small model SChar = omega arith
modulus-small model UChar = omega arith
modulus-small model Short = omega arith
modulus-small model UShort = omega arith
modulus-small model Int = omega arith
modulus-small model UInt = omega arith
modulus-small model LLong = omega arith
modulus-small model ULLong = omega arith

-- the quotient rounds down, so it is q exactly between q times the modulus and the next multiple
from_quotient : (x q b taken : ℤ) (m : ℕ) → 0 < m → taken ≡ q *ℤ pos m → floor_div (x +ℤ b) m ≡ q
    → (((pos 0 -ℤ b) +ℤ taken) ≤ℤ x) × (x ≤ℤ ((((pos 0 -ℤ b) +ℤ taken) +ℤ pos m) -ℤ pos 1))
from_quotient x q b taken m lt t e =
    let rest = euclid-rest (x +ℤ b) m lt in
    let parts = floor_div-rest (x +ℤ b) m lt in
    let whole = ap (λ z. z *ℤ pos m) e in
    apart x b taken _ _ rest.0 m rest.1 rest.2 parts (whole ∙ sym t)
  where
    apart : (x b taken whole rest : ℤ) (r m : ℕ) → rest ≡ pos r → r < m → whole +ℤ rest ≡ x +ℤ b → whole ≡ taken
        → (((pos 0 -ℤ b) +ℤ taken) ≤ℤ x) × (x ≤ℤ ((((pos 0 -ℤ b) +ℤ taken) +ℤ pos m) -ℤ pos 1))
    apart x b taken whole rest r m e lt s t = (omega (arith, ints), omega (arith, ints))

to_quotient : (x q b taken : ℤ) (m : ℕ) → taken ≡ q *ℤ pos m → ((pos 0 -ℤ b) +ℤ taken) ≤ℤ x
    → x ≤ℤ ((((pos 0 -ℤ b) +ℤ taken) +ℤ pos m) -ℤ pos 1) → floor_div (x +ℤ b) m ≡ q
to_quotient x q b taken m t from upto =
    let r = unsigned_abs ((x +ℤ b) -ℤ taken) in
    let lt : r < m = omega (arith, ints) in
    let e : x +ℤ b ≡ taken +ℤ pos r = omega (arith, ints) in
    floor_div-unique q (x +ℤ b) r m lt (e ∙ ap (λ z. z +ℤ pos r) t)

-- the numbers with a quotient, by the ends of their interval
pub quotient_ends : (model : DataModel) (ty : IntType) (q x low high : ℤ) → low ≡ least_of model ty +ℤ q *ℤ pos (modulus_of model ty)
    → high ≡ (low +ℤ pos (modulus_of model ty)) -ℤ pos 1 → ((low ≤ℤ x) × (x ≤ℤ high)) ↔ (wrap_quotient model ty x ≡ q)
quotient_ends model ty q x low high e f =
    let b : ℤ = pos (negatives_of model ty) in
    let m = modulus_of model ty in
    let shifted = wrap_quotient-shifted model ty x in
    let positive : 0 < m = omega (arith, modulus-large model ty) in
    rw (f, e) (
      λ h. shifted ∙ to_quotient x q b (q *ℤ pos m) m refl h.0 h.1,
      λ h. from_quotient x q b (q *ℤ pos m) m positive refl (sym shifted ∙ h),
    )

-- the same with the interval's test
pub quotient_test : (model : DataModel) (ty : IntType) (q x low high : ℤ) → low ≡ least_of model ty +ℤ q *ℤ pos (modulus_of model ty)
    → high ≡ (low +ℤ pos (modulus_of model ty)) -ℤ pos 1 → ((int_le low x && int_le x high) ≡ true) ↔ (wrap_quotient model ty x ≡ q)
quotient_test model ty q x low high e f =
    let ends = quotient_ends model ty q x low high e f in
    (λ t. ends.0 (over_yields low high x t), λ t. let h = ends.1 t in both_true low x high h.0 h.1)
  where
    both_true : (low x high : ℤ) → low ≤ℤ x → x ≤ℤ high → (int_le low x && int_le x high) ≡ true
    both_true low x high h k = grind (arith, ints)

-- at most one modulus
one_turn : (q : ℤ) (m : ℕ) → unsigned_abs q ≤ 1 → unsigned_abs (q *ℤ pos m) ≤ m
one_turn (pos zero) m h = omega (arith, ints)
one_turn (pos (suc zero)) m h = omega (arith, ints)
one_turn (pos (suc (suc n))) m h = absurd (omega arith)
one_turn (negsuc zero) m h = omega (arith, ints)
one_turn (negsuc (suc n)) m h = absurd (omega arith)

-- the ends of an interval at most one modulus from 0
pub ends_narrow : (model : DataModel) (ty : IntType) (q low high : ℤ) → unsigned_abs q ≤ 1
    → low ≡ least_of model ty +ℤ q *ℤ pos (modulus_of model ty) → high ≡ (low +ℤ pos (modulus_of model ty)) -ℤ pos 1
    → (unsigned_abs low ≤ 2 ^ 65) × (unsigned_abs high ≤ 2 ^ 65)
ends_narrow model ty q low high h e f =
    let turn = one_turn q (modulus_of model ty) h in
    narrow low high (q *ℤ pos (modulus_of model ty)) (negatives_of model ty) (modulus_of model ty) (negatives-small model ty) (modulus-small model ty)
    turn e f
  where
    narrow : (low high taken : ℤ) (b m : ℕ) → b ≤ 2 ^ 63 → m ≤ 2 ^ 64 → unsigned_abs taken ≤ m → low ≡ (pos 0 -ℤ pos b) +ℤ taken
        → high ≡ (low +ℤ pos m) -ℤ pos 1 → (unsigned_abs low ≤ 2 ^ 65) × (unsigned_abs high ≤ 2 ^ 65)
    narrow low high taken b m h k l e f = (omega (arith, ints), omega (arith, ints))

-- the ends and the values computed for them fit
pub record HasRoom (taken low : ℤ) (m : ℕ) : Type 0 where
  pub turn : FitsSigned w128 taken
  pub low_end : FitsSigned w128 low
  pub next : FitsSigned w128 (low +ℤ pos m)
  pub high_end : FitsSigned w128 ((low +ℤ pos m) -ℤ pos 1)

pub room : (model : DataModel) (ty : IntType) (q : ℤ) → unsigned_abs q ≤ 1
    → HasRoom (q *ℤ pos (modulus_of model ty)) (least_of model ty +ℤ q *ℤ pos (modulus_of model ty)) (modulus_of model ty)
room model ty q h =
    fits (q *ℤ pos (modulus_of model ty)) (negatives_of model ty) (modulus_of model ty) (negatives-small model ty) (modulus-small model ty)
    (one_turn q (modulus_of model ty) h)
  where
    fits : (taken : ℤ) (b m : ℕ) → b ≤ 2 ^ 63 → m ≤ 2 ^ 64 → unsigned_abs taken ≤ m → HasRoom taken ((pos 0 -ℤ pos b) +ℤ taken) m
    fits taken b m h k l = record { turn = omega (arith, ints); low_end = omega (arith, ints); next = omega (arith, ints); high_end = omega (arith, ints) }
