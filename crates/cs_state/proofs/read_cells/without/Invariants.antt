use Rattle.std.proofs.Common.{◌≡◌, ℕ, drop, cond, nat_eq}
use Rattle.std.specs.Prelude.{None, Some}
use Rattle.std.specs.FinMap.{get}
use Rattle.std.specs.List.{list_any}
use Rattle.cs_state.specs.ReadCells.{SymMap}
use Rattle.cs_state.proofs.read_cells.without.Given as goal

abbrev pub invariant-loop-base : goal.invariant-loop-base
invariant-loop-base l =
    ((b : ℕ) → cond (list_any (λ x. nat_eq b x) (drop l.base-index l.bases)) None (get l.others (b, 0))
    ≡ cond (list_any (λ x. nat_eq b x) l.bases) None (get l.cells (b, 0)))
    × ((key : ℕ × ℕ) (found : SymMap) → get l.others key ≡ Some found → get l.cells key ≡ Some found)
