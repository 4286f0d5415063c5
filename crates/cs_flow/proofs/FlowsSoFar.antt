-- The flows of the first functions, and of one more: for the loop of `append_flow`.
use Rattle.std.proofs.Common.{◌≡◌, ℕ, zero, suc, ◌<◌, List, [], ◌∷◌, ◌++◌, length, map, take, get_or, sym, ap, ◌∙◌, append_assoc}
use Rattle.std.proofs.Common.{append-nil, arith}
use Rattle.std.specs.List.{flat_map}
use Rattle.cs_ast.specs.declared.typed.program.Function.{Function}
use Rattle.cs_ast.specs.TypedProgram.{Routine, routine}

pub one_more_flow : (lines : Routine → List ℕ) (functions : List Function) (count : ℕ) (f : Function) → count < length functions
    → f ≡ get_or functions count f → flat_map lines (take (suc count) (map routine functions))
    ≡ flat_map lines (take count (map routine functions)) ++ lines (routine f)
one_more_flow lines [] count f h is = absurd (omega arith)
one_more_flow lines (one ∷ functions) zero f h is = append-nil (lines (routine one)) ∙ ap (λ (g : Function). lines (routine g)) (sym is)
one_more_flow lines (one ∷ functions) (suc count) f h is =
    ap (◌++◌ (lines (routine one))) (one_more_flow lines functions count f (omega arith) is)
    ∙ sym (append_assoc (lines (routine one)) (flat_map lines (take count (map routine functions))) (lines (routine f)))
