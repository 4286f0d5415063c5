-- Members of structs by their names (C11 6.5.2.3).
use Rattle.std.specs.Prelude.{ℕ, nat_eq, if◌then◌else◌, List, [], ◌∷◌, Option, Some, None}
use Rattle.std.specs.Cmp.Lexicographic.{pointwise}
use Rattle.cs_types.specs.Members.{Member}
use Rattle.cs_ast.specs.declared.place.Place.{Place}
use Rattle.cs_scopes.specs.declared.refusal.TypeCode.TheVariants as code
use Rattle.cs_scopes.specs.Verdicts.{Verdict, Fine, Fault}

-- the first member of this name
abbrev pub member_named : List ℕ → List Member → Option Member
member_named name [] = None
member_named name (m ∷ ms) = if pointwise nat_eq m.name name then Some m else member_named name ms

-- a member, if there is one
abbrev pub member_at : Place → Option Member → Verdict Member
member_at at (Some m) = Fine m
member_at at None = Fault code.NoMember at

-- the member with this name of a struct with a body
unfoldable pub member_found : Place → List ℕ → Option (List Member) → Verdict Member
member_found at name (Some members) = member_at at (member_named name members)
member_found at name None = Fault code.UnknownName at
