use Rattle.std.proofs.Common.{◌≡◌, ℕ, drop, cond, nat_eq}
use Rattle.std.specs.Prelude.{None, Some}
use Rattle.std.specs.FinMap.{get}
use Rattle.std.specs.List.{list_any}
use Rattle.cs_store.specs.Contents.{Contents}
use Rattle.cs_store.proofs.store.without.Given as goal

abbrev pub invariant-loop-base : goal.invariant-loop-base
invariant-loop-base l =
    ((b : ℕ) → cond (list_any (λ x. nat_eq b x) (drop l.base-index l.bases)) None (get l.others (b, 0))
    ≡ cond (list_any (λ x. nat_eq b x) l.bases) None (get l.regions (b, 0)))
    × ((key : ℕ × ℕ) (contents : Contents) → get l.others key ≡ Some contents → get l.regions key ≡ Some contents)
