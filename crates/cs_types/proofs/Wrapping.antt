-- Wrap quotients and wrapped numbers: for the contracts of `quotient`, `wrap` and `multiply`.
use Rattle.std.proofs.Common.{◌≡◌, ℕ, ◌*◌, ◌/◌, ◌-◌, ◌^◌, ◌<◌, ◌≤◌, arith, sym, ◌∙◌, ap, refl, Bool, true, false, cond}
use Rattle.std.proofs.Common.{lit<, mul-le-mul_right}
use Rattle.std.specs.Prelude.{ℤ, pos, negsuc, ◌+ℤ◌, ◌-ℤ◌, ◌*ℤ◌, unsigned_abs, FitsSigned}
use Rattle.std.specs.Int.{int_rem_euclid, w128}
use Rattle.std.proofs.lemmas.Int.{ints}
use Rattle.std.proofs.Math.IntN.{+ℤ_idr}
use Rattle.cs_types.specs.declared.data_model.DataModel.{DataModel}
use Rattle.cs_types.specs.declared.data_model.DataModel.TheVariants.{Lp64, Ilp32}
use Rattle.cs_types.specs.declared.int_type.IntType.{IntType}
use Rattle.cs_types.specs.declared.int_type.IntType.TheVariants.{Char, SChar, UChar, Short, UShort, Int, UInt, Long, ULong, LLong, ULLong}
use Rattle.cs_types.specs.IntType.{bytes_of, has_sign, modulus_of, negatives_of, InRange}
use Rattle.cs_types.specs.Wrap.{floor_div, wrap_quotient, wrapped}
use Rattle.cs_types.proofs.FloorDivision.{add-*ℤ, floor_div-rest, euclid-rest, floor_div-add}

-- a type has numbers that aren't below 0
pub negatives-below : (model : DataModel) (ty : IntType) → negatives_of model ty < modulus_of model ty
negatives-below Lp64 Long = lit< tt
negatives-below Lp64 ULong = lit< tt
negatives-below Ilp32 Long = lit< tt
negatives-below Ilp32 ULong = lit< tt
negatives-below model Char = lit< tt
negatives-below model SChar = lit< tt
negatives-below model UChar = lit< tt
negatives-below model Short = lit< tt
negatives-below model UShort = lit< tt
negatives-below model Int = lit< tt
negatives-below model UInt = lit< tt
negatives-below model LLong = lit< tt
negatives-below model ULLong = lit< tt

-- a type has at least 256 numbers
pub modulus-large : (model : DataModel) (ty : IntType) → 255 < modulus_of model ty
modulus-large Lp64 Long = lit< tt
modulus-large Lp64 ULong = lit< tt
modulus-large Ilp32 Long = lit< tt
modulus-large Ilp32 ULong = lit< tt
modulus-large model Char = lit< tt
modulus-large model SChar = lit< tt
modulus-large model UChar = lit< tt
modulus-large model Short = lit< tt
modulus-large model UShort = lit< tt
modulus-large model Int = lit< tt
modulus-large model UInt = lit< tt
modulus-large model LLong = lit< tt
modulus-large model ULLong = lit< tt

shifted : (signed : Bool) (half n : ℕ) (z : ℤ)
    → cond signed (floor_div (z +ℤ pos half) n) (floor_div z n) ≡ floor_div (z +ℤ pos (cond signed half 0)) n
shifted true half n z = refl
shifted false half n z = ap (λ x. floor_div x n) (sym (+ℤ_idr z))

-- one form of the quotient for types of both signs
pub wrap_quotient-shifted : (model : DataModel) (ty : IntType) (z : ℤ)
    → wrap_quotient model ty z ≡ floor_div (z +ℤ pos (negatives_of model ty)) (modulus_of model ty)
wrap_quotient-shifted model ty z = shifted (has_sign ty) (2 ^ (8 * bytes_of model ty - 1)) (modulus_of model ty) z

-- the wrapped number is the euclidean remainder of the shifted number, shifted back
pub wrapped-rest : (model : DataModel) (ty : IntType) (z : ℤ)
    → wrapped model ty z ≡ int_rem_euclid (z +ℤ pos (negatives_of model ty)) (pos (modulus_of model ty)) -ℤ pos (negatives_of model ty)
wrapped-rest model ty z =
    let large = modulus-large model ty in
    let parts = floor_div-rest (z +ℤ pos (negatives_of model ty)) (modulus_of model ty) (omega arith) in
    let whole = ap (λ q. q *ℤ pos (modulus_of model ty)) (wrap_quotient-shifted model ty z) in
    let P : ℤ → Type 0 = λ x. x ≡ x in
    between z (pos (negatives_of model ty)) (wrap_quotient model ty z *ℤ pos (modulus_of model ty))
    (int_rem_euclid (z +ℤ pos (negatives_of model ty)) (pos (modulus_of model ty)))
    (ap (λ x. x +ℤ int_rem_euclid (z +ℤ pos (negatives_of model ty)) (pos (modulus_of model ty))) whole ∙ parts)
  where
    between : (number below taken rest : ℤ) → taken +ℤ rest ≡ number +ℤ below → number -ℤ taken ≡ rest -ℤ below
    between number below taken rest e = omega (arith, ints)

in_range : (model : DataModel) (ty : IntType) (z rest : ℤ) (r below m : ℕ) → below ≡ negatives_of model ty → m ≡ modulus_of model ty
    → z ≡ rest -ℤ pos below → rest ≡ pos r → r < m → below < m → InRange model ty z
in_range model ty z rest r below m b e f g h k = record { from_least = rw (← b) (omega (arith, ints)); to_greatest = rw (← b, ← e) (omega (arith, ints)) }

-- a wrapped number is in the range of the type
pub wrapped-InRange : (model : DataModel) (ty : IntType) (z : ℤ) → InRange model ty (wrapped model ty z)
wrapped-InRange model ty z =
    let rest = euclid-rest (z +ℤ pos (negatives_of model ty)) (modulus_of model ty) (omega (arith, modulus-large model ty)) in
    in_range model ty (wrapped model ty z) (int_rem_euclid (z +ℤ pos (negatives_of model ty)) (pos (modulus_of model ty))) rest.0 (negatives_of model ty)
    (modulus_of model ty) refl refl (wrapped-rest model ty z) rest.1 rest.2 (negatives-below model ty)

-- adding a multiple of the modulus to a number adds the factor to its quotient
pub wrap_quotient-add : (model : DataModel) (ty : IntType) (z k : ℤ)
    → wrap_quotient model ty (z +ℤ k *ℤ pos (modulus_of model ty)) ≡ wrap_quotient model ty z +ℤ k
wrap_quotient-add model ty z k =
    let b : ℤ = pos (negatives_of model ty) in
    let m = modulus_of model ty in
    let moved : (x y w : ℤ) → (x +ℤ y) +ℤ w ≡ (x +ℤ w) +ℤ y = λ x y w. omega (arith, ints) in
    wrap_quotient-shifted model ty (z +ℤ k *ℤ pos m) ∙ ap (λ x. floor_div x m) (moved z (k *ℤ pos m) b)
    ∙ floor_div-add (z +ℤ b) k m (omega (arith, modulus-large model ty)) ∙ ap (λ q. q +ℤ k) (sym (wrap_quotient-shifted model ty z))

-- and doesn't change the wrapped number
pub wrapped-add : (model : DataModel) (ty : IntType) (z k : ℤ) → wrapped model ty (z +ℤ k *ℤ pos (modulus_of model ty)) ≡ wrapped model ty z
wrapped-add model ty z k =
    let m : ℤ = pos (modulus_of model ty) in
    let turned = ap (λ q. q *ℤ m) (wrap_quotient-add model ty z k) ∙ add-*ℤ (wrap_quotient model ty z) k m in
    cancelled z (k *ℤ m) (wrap_quotient model ty z *ℤ m) _ turned
  where
    cancelled : (number more taken taken' : ℤ) → taken' ≡ taken +ℤ more → (number +ℤ more) -ℤ taken' ≡ number -ℤ taken
    cancelled number more taken taken' e = omega (arith, ints)

-- the quotient of a shifted number of 128 bits is small
pub wrap_quotient-small : (model : DataModel) (ty : IntType) (z : ℤ) → FitsSigned w128 (z +ℤ pos (negatives_of model ty))
    → unsigned_abs (wrap_quotient model ty z) ≤ 2 ^ 119
wrap_quotient-small model ty z h = rw wrap_quotient-shifted (floor_div-small _ (modulus_of model ty) (modulus-large model ty) h)
  where
    quotient-small : (a m : ℕ) → 255 < m → a < 2 ^ 127 → a / m < 2 ^ 119
    quotient-small a m large h =
        let wide : 256 ≤ m = omega arith in
        omega (arith, mul-le-mul_right (a / m) wide)

    floor_div-small : (x : ℤ) (m : ℕ) → 255 < m → FitsSigned w128 x → unsigned_abs (floor_div x m) ≤ 2 ^ 119
    floor_div-small (pos a) m large h = omega (arith, quotient-small a m large h.sfits)
    floor_div-small (negsuc a) m large h = omega (arith, quotient-small a m large h.sfits)
