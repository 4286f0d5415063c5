-- The name of a function by its number: for `function_name`.
use Rattle.std.proofs.Common.{◌≡◌, ℕ, zero, suc, ◌<◌, List, [], ◌∷◌, map, get_or, refl, length, arith}
use Rattle.std.specs.Prelude.{slice_index_or}
use Rattle.cs_ast.specs.declared.typed.program.Function.{Function}
use Rattle.cs_ast.specs.TypedProgram.{Routine, routine}

pub name_at : (functions : List Function) (number : ℕ) (d : Function) → number < length functions
    → slice_index_or (map (λ (r : Routine). r.name) (map routine functions)) number [] ≡ (get_or functions number d).name
name_at [] number d below = absurd (omega arith)
name_at (f ∷ fs) zero d below = refl
name_at (f ∷ fs) (suc number) d below = name_at fs number d (omega arith)
