-- The functions with an index in a file's order, by two tables with the same defined functions: for the order of functions.
use Rattle.std.proofs.Common.{◌≡◌, ℕ, Bool, cond, List, [], ◌∷◌, ◌++◌, Some, None, refl, ap, ◌∙◌}
use Rattle.std.specs.Prelude.{◌||◌, option_to_list}
use Rattle.cs_ast.specs.declared.raw.external.RawExternalKind.{RawExternalKind}
use Rattle.cs_ast.specs.declared.raw.external.RawExternalKind.TheVariants as external
use Rattle.cs_ast.specs.declared.raw.external.RawExternal.{RawExternal}
use Rattle.cs_file_scope.specs.Order.{is_of_library, placed, all_placed}

module _ (defined other : List ℕ → Bool) (alike : (name : List ℕ) → defined name ≡ other name) where
  placed-alike : (kind : RawExternalKind) → placed defined kind ≡ placed other kind
  placed-alike (external.Type s) = refl
  placed-alike (external.Typedef s names) = refl
  placed-alike (external.Objects s objects) = refl
  placed-alike (external.Function s d) = ap (λ b. cond (is_of_library d.name || b) None (Some d.name)) (alike d.name)
  placed-alike (external.Definition s d body) = refl

  pub all_placed-alike : (file : List RawExternal) → all_placed defined file ≡ all_placed other file
  all_placed-alike [] = refl
  all_placed-alike (e ∷ es) =
      ap (λ o. option_to_list o ++ all_placed defined es) (placed-alike e.kind)
      ∙ ap (λ names. option_to_list (placed other e.kind) ++ names) (all_placed-alike es)
