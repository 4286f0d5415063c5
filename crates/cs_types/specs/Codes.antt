-- Shapes and members as lists of numbers, with which proofs distinguish them.
use Rattle.std.specs.Prelude.{◌≡◌, ℕ, zero, suc, List, [], ◌∷◌, slice_get, unwrap_or, refl}
use Rattle.std.proofs.Common.{ap}
use Rattle.std.specs.Coded.{Coded, code_by, coded×, coded_ℕ, coded_list}
use Rattle.cs_types.specs.declared.int_type.IntType.{IntType}
use Rattle.cs_types.specs.declared.int_type.IntType.TheVariants.{Char, SChar, UChar, Short, UShort, Int, UInt, Long, ULong, LLong, ULLong}
use Rattle.cs_types.specs.Shape.{Shape, void, integer, pointer, array, struct, place_of}
use Rattle.cs_types.specs.Members.{Member}

-- the integer type with an index among the integer types
abbrev pub at_place : ℕ → IntType
at_place n = unwrap_or (slice_get (Char ∷ SChar ∷ UChar ∷ Short ∷ UShort ∷ Int ∷ UInt ∷ Long ∷ ULong ∷ LLong ∷ ULLong ∷ []) n) Char

abbrev pub row_of : Shape → List ℕ
row_of void = []
row_of (integer ty) = 0 ∷ place_of ty ∷ []
row_of (pointer target) = 1 ∷ row_of target
row_of (array element count) = 2 ∷ count ∷ row_of element
row_of (struct number) = 3 ∷ number ∷ []

abbrev pub shape_in : List ℕ → Shape
shape_in (zero ∷ ty ∷ rest) = integer (at_place ty)
shape_in (suc zero ∷ rest) = pointer (shape_in rest)
shape_in (suc (suc zero) ∷ count ∷ rest) = array (shape_in rest) count
shape_in (suc (suc (suc n)) ∷ number ∷ rest) = struct number
shape_in other = void

pub place_back : (ty : IntType) → at_place (place_of ty) ≡ ty
place_back Char = refl
place_back SChar = refl
place_back UChar = refl
place_back Short = refl
place_back UShort = refl
place_back Int = refl
place_back UInt = refl
place_back Long = refl
place_back ULong = refl
place_back LLong = refl
place_back ULLong = refl

pub shape_back : (s : Shape) → shape_in (row_of s) ≡ s
shape_back void = refl
shape_back (integer ty) = ap integer (place_back ty)
shape_back (pointer target) = ap pointer (shape_back target)
shape_back (array element count) = ap (λ s. array s count) (shape_back element)
shape_back (struct number) = refl

abbrev pub shape_code : Coded Shape
shape_code = code_by (List ℕ) (coded_list coded_ℕ) row_of shape_in shape_back

abbrev pub member_code : Coded Member
member_code =
    code_by (List ℕ × (Shape × ℕ)) (coded× (coded_list coded_ℕ) (coded× shape_code coded_ℕ)) (λ m. (m.name, (m.ty, m.offset)))
    (λ p. record { name = p.0; ty = p.1.0; offset = p.1.1 }) (λ _. refl)

abbrev pub members_code : Coded (List Member)
members_code = coded_list member_code
