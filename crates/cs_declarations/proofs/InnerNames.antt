-- The meaning of a name that is declared in the innermost scope is that of its last declaration there: for `meaning_here`.
use Rattle.std.proofs.Common.{◌≡◌, ℕ, zero, suc, true, List, [], ◌∷◌, Option, Some, None, refl, ap, ◌∙◌, drop}
use Rattle.std.specs.Prelude.{is_some, nat_eq, if◌then◌else◌}
use Rattle.std.specs.Option.{option_or}
use Rattle.std.specs.Cmp.Lexicographic.{pointwise}
use Rattle.cs_scopes.specs.Meanings.{Declaration}
use Rattle.cs_scopes.specs.Scopes.{newest}

-- the first of two options, if it is there
there_first : {A : Type 0} (o p : Option A) → is_some o ≡ true → option_or o p ≡ o
there_first None p h = absurd (cc)
there_first (Some a) p h = refl

pub newest_inside : (name : List ℕ) (outer : ℕ) (ds : List Declaration) → is_some (newest name (drop outer ds)) ≡ true
    → newest name ds ≡ newest name (drop outer ds)
newest_inside name zero ds h = refl
newest_inside name (suc outer) [] h = refl
newest_inside name (suc outer) (d ∷ ds) h =
    let inside : newest name ds ≡ newest name (drop outer ds) = newest_inside name outer ds h in
    there_first (newest name ds) (if pointwise nat_eq d.name name then Some d.meaning else None) (ap is_some inside ∙ h) ∙ inside
