-- The types of parts by their number: for `Parts::ty`.
use Rattle.std.proofs.Common.{◌≡◌, ℕ, zero, suc, ◌<◌, ◌≤◌, List, map, Some, None, refl, ap, ◌∙◌}
use Rattle.std.proofs.Common.{arith}
use Rattle.std.specs.Prelude.{slice_get, option_map}
use Rattle.std.proofs.lemmas.Option.{slice_get-map}
use Rattle.cs_types.specs.Members.{Member}
use Rattle.cs_types.specs.Shape.{Shape}
use Rattle.cs_scopes.specs.Parts.{copies}

pub copies-within : (count i : ℕ) (ty : Shape) → i < count → slice_get (copies count ty) i ≡ Some ty
copies-within zero i ty h = absurd (omega arith)
copies-within (suc count) zero ty h = refl
copies-within (suc count) (suc i) ty h = copies-within count i ty (omega arith)

pub copies-past : (count i : ℕ) (ty : Shape) → count ≤ i → slice_get (copies count ty) i ≡ None
copies-past zero i ty h = refl
copies-past (suc count) zero ty h = absurd (omega arith)
copies-past (suc count) (suc i) ty h = copies-past count i ty (omega arith)

-- the type of a member at its index
pub member_type : (members : List Member) (i : ℕ) (m : Member) → slice_get members i ≡ Some m
    → slice_get (map (λ (m : Member). m.ty) members) i ≡ Some m.ty
member_type members i m e = slice_get-map (λ (m : Member). m.ty) members i ∙ ap (option_map (λ (m : Member). m.ty)) e

pub ruleset parts_by_number = (copies-within, copies-past, member_type)
