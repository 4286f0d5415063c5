use Rattle.std.proofs.Common.{◌≡◌, ℕ, drop, cond}
use Rattle.std.specs.Prelude.{None, Some}
use Rattle.std.specs.FinMap.{get}
use Rattle.cs_terms.specs.declared.symbol.Sym.{Sym}
use Rattle.cs_state.specs.ReadCells.{has_leaf}
use Rattle.cs_state.proofs.read_cells.without_leaves.Given as goal

abbrev pub invariant-loop-offset : goal.invariant-loop-offset
invariant-loop-offset l =
    ((o : ℕ) → cond (has_leaf (drop l.offset-index l.leaves) o) None (get l.others (o, 0))
    ≡ cond (has_leaf l.leaves o) None (get l.syms (o, 0)))
    × ((key : ℕ × ℕ) (sym : Sym) → get l.others key ≡ Some sym → get l.syms key ≡ Some sym)
