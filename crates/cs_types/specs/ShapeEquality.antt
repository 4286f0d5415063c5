-- Equality of types is an equivalence whose classes are exactly the shapes: the laws that `==` of `CType` cites.
use Rattle.std.proofs.Common.{◌≡◌, ℕ, Bool, true, false, ◌&&◌, cond, sym, ◌∙◌, ap, refl, eqb-true, arith}
use Rattle.std.specs.Prelude.{◌==◌}
use Rattle.std.specs.Cmp.{IsEquivalence, first_so, second_so}
use Rattle.std.proofs.lemmas.Bool.Decides.{nat_tests}
use Rattle.cs_types.specs.declared.int_type.IntType.{IntType}
use Rattle.cs_types.specs.declared.int_type.IntType.TheVariants.{Char, SChar, UChar, Short, UShort, Int, UInt, Long, ULong, LLong, ULLong}
use Rattle.cs_types.specs.Shape.{Shape, void, integer, pointer, array, struct, same_shape, place_of}

type_at : ℕ → IntType
type_at n =
    cond (n == 0) Char
    (cond (n == 1) SChar
    (cond (n == 2) UChar
    (cond (n == 3) Short
    (cond (n == 4) UShort (cond (n == 5) Int (cond (n == 6) UInt (cond (n == 7) Long (cond (n == 8) ULong (cond (n == 9) LLong ULLong)))))))))

type_at-place_of : (ty : IntType) → type_at (place_of ty) ≡ ty
unfolding type_at
type_at-place_of Char = refl
type_at-place_of SChar = refl
type_at-place_of UChar = refl
type_at-place_of Short = refl
type_at-place_of UShort = refl
type_at-place_of Int = refl
type_at-place_of UInt = refl
type_at-place_of Long = refl
type_at-place_of ULong = refl
type_at-place_of LLong = refl
type_at-place_of ULLong = refl

same_place : (a b : IntType) → place_of a ≡ place_of b → a ≡ b
same_place a b e = sym (type_at-place_of a) ∙ ap type_at e ∙ type_at-place_of b

-- types that compare equal have one shape
pub same_shape-true : (a b : Shape) → same_shape a b ≡ true → a ≡ b
same_shape-true void void h = refl
same_shape-true (integer a) (integer b) h = ap integer (same_place a b (eqb-true (place_of a) (place_of b) h))
same_shape-true (pointer a) (pointer b) h = ap pointer (same_shape-true a b h)
same_shape-true (array a m) (array b n) h =
    let counts : m ≡ n = eqb-true m n (first_so (m == n) (same_shape a b) h) in
    let elements = same_shape-true a b (second_so (m == n) (same_shape a b) h) in
    λ i. array (elements i) (counts i)
same_shape-true (struct a) (struct b) h = ap struct (eqb-true a b h)
same_shape-true void (integer b) h = absurd (cc)
same_shape-true void (pointer b) h = absurd (cc)
same_shape-true void (array b n) h = absurd (cc)
same_shape-true void (struct b) h = absurd (cc)
same_shape-true (integer a) void h = absurd (cc)
same_shape-true (integer a) (pointer b) h = absurd (cc)
same_shape-true (integer a) (array b n) h = absurd (cc)
same_shape-true (integer a) (struct b) h = absurd (cc)
same_shape-true (pointer a) void h = absurd (cc)
same_shape-true (pointer a) (integer b) h = absurd (cc)
same_shape-true (pointer a) (array b n) h = absurd (cc)
same_shape-true (pointer a) (struct b) h = absurd (cc)
same_shape-true (array a m) void h = absurd (cc)
same_shape-true (array a m) (integer b) h = absurd (cc)
same_shape-true (array a m) (pointer b) h = absurd (cc)
same_shape-true (array a m) (struct b) h = absurd (cc)
same_shape-true (struct a) void h = absurd (cc)
same_shape-true (struct a) (integer b) h = absurd (cc)
same_shape-true (struct a) (pointer b) h = absurd (cc)
same_shape-true (struct a) (array b n) h = absurd (cc)

own : (n : ℕ) → (n == n) ≡ true
own n = grind (arith, nat_tests)

-- a type is equal to itself
pub same_shape-refl : (a : Shape) → same_shape a a ≡ true
same_shape-refl void = refl
same_shape-refl (integer a) = own (place_of a)
same_shape-refl (pointer a) = same_shape-refl a
same_shape-refl (array a n) = ap (λ t. t && same_shape a a) (own n) ∙ same_shape-refl a
same_shape-refl (struct a) = own a

alike : (s t : Bool) → (s ≡ true → t ≡ true) → (t ≡ true → s ≡ true) → s ≡ t
alike true t h g = sym (h refl)
alike false true h g = g refl
alike false false h g = refl

from_same : (a b : Shape) → a ≡ b → same_shape a b ≡ true
from_same a b e = ap (same_shape a) (sym e) ∙ same_shape-refl a

pub same_shape-equivalence : IsEquivalence same_shape
same_shape-equivalence = record {
  refl = same_shape-refl;
  symm = λ a b. alike (same_shape a b) (same_shape b a) (λ h. from_same b a (sym (same_shape-true a b h)))
      (λ h. from_same a b (sym (same_shape-true b a h)));
  congr = λ a b z h. ap (λ s. same_shape s z) (same_shape-true a b h);
}
