-- The number of scalars of arrays and structs: for that of a type.
use Rattle.std.proofs.Common.{◌≡◌, ◌≢◌, ℕ, zero, suc, ◌+◌, ◌-◌, ◌*◌, ◌<◌, ◌≤◌, List, [], ◌∷◌, drop, length, get_or}
use Rattle.std.proofs.Common.{drop-cons, add-one, Option, Some, None, refl, sym, ap, ◌∙◌, arith}
use Rattle.std.specs.Option.{option_and_then}
use Rattle.cs_types.specs.declared.structs.StructType.{StructType}
use Rattle.cs_types.specs.Layout.{members_of}
use Rattle.cs_types.specs.Members.{Member}
use Rattle.cs_types.specs.Shape.{Shape, void, integer, pointer, array, struct}
use Rattle.cs_scopes.specs.Scalars.{few, scalars_with, scalars_alone, innermost, scalars_times, scalars_after, scalars_of_members, struct_scalars}

-- the number of scalars of an array is that of its innermost element, times the number of elements
pub scalars-times : (of_struct : ℕ → Option ℕ) (ty : Shape) → scalars_times (scalars_alone of_struct (innermost ty)) ty ≡ scalars_with of_struct ty
scalars-times of_struct void = refl
scalars-times of_struct (integer ty) = refl
scalars-times of_struct (pointer target) = refl
scalars-times of_struct (array element count) = ap (option_and_then (λ n. few (n * count))) (scalars-times of_struct element)
scalars-times of_struct (struct number) = refl

-- the number of scalars of a struct, with a bound on the depth of structs in it
pub struct_scalars-members : (table : List StructType) (depth number : ℕ) → depth ≢ 0
    → struct_scalars table depth number ≡ scalars_of_members (scalars_with (struct_scalars table (depth - 1))) (members_of table number)
struct_scalars-members table zero number some = absurd (some refl)
struct_scalars-members table (suc depth) number some =
    let less : depth ≡ suc depth - 1 = omega arith in
    ap (λ d. scalars_of_members (scalars_with (struct_scalars table d)) (members_of table number)) less

-- one more member
pub member_more : (of_type : Shape → Option ℕ) (all n more i : ℕ) (ms : List Member) (m : Member) → drop i ms ≡ m ∷ drop (i + 1) ms
    → of_type m.ty ≡ Some n → few (all + n) ≡ Some more → scalars_after of_type all (drop i ms) ≡ scalars_after of_type more (drop (i + 1) ms)
member_more of_type all n more i ms m e f g =
    ap (scalars_after of_type all) e
    ∙ ap (option_and_then (λ k. option_and_then (λ sum. scalars_after of_type sum (drop (i + 1) ms)) (few (all + k)))) f
    ∙ ap (option_and_then (λ sum. scalars_after of_type sum (drop (i + 1) ms))) g

pub member_past : (of_type : Shape → Option ℕ) (all n i : ℕ) (ms : List Member) (m : Member) → drop i ms ≡ m ∷ drop (i + 1) ms
    → of_type m.ty ≡ Some n → few (all + n) ≡ None → scalars_after of_type all (drop i ms) ≡ None
member_past of_type all n i ms m e f g =
    ap (scalars_after of_type all) e
    ∙ ap (option_and_then (λ k. option_and_then (λ sum. scalars_after of_type sum (drop (i + 1) ms)) (few (all + k)))) f
    ∙ ap (option_and_then (λ sum. scalars_after of_type sum (drop (i + 1) ms))) g

-- a member at its index, before those after it
pub member_there : (i : ℕ) (ms : List Member) (m : Member) → i < length ms → m ≡ get_or ms i m → drop i ms ≡ m ∷ drop (i + 1) ms
member_there i ms m within read = drop-cons ms i m within ∙ ap (λ x. x ∷ drop (suc i) ms) (sym read) ∙ ap (λ j. m ∷ drop j ms) (sym (add-one i))

-- no member remains
pub members_counted : (of_type : Shape → Option ℕ) (all i : ℕ) (ms : List Member) → length ms ≤ i
    → scalars_after of_type all (drop i ms) ≡ Some all
members_counted of_type all zero [] h = refl
members_counted of_type all (suc i) [] h = refl
members_counted of_type all zero (m ∷ ms) h = absurd (omega arith)
members_counted of_type all (suc i) (m ∷ ms) h = members_counted of_type all i ms (omega arith)
