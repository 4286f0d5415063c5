use Rattle.std.proofs.Common.{◌≡◌, rules}
use Rattle.std.specs.Prelude.{ℤ}
use Rattle.std.proofs.lemmas.Fn.{always_returns_same}
use Rattle.std.specs.List.{HoldsAt}
use Rattle.std.specs.List.Sorted.{IsBinarySearchResult, IsNonDecreasingBy, IsPartitionPoint}
use Rattle.std.specs.Ordering.{ordering_index}
use Rattle.std.specs.declared.cmp.Ordering.TheVariants.{Less, Equal, Greater}
use Rattle.cs_inputs.specs.declared.path.Path.{Path}
use Rattle.cs_inputs.specs.PathOrder.{path_order}
use Rattle.cs_inputs.proofs.PathOrderLaws.{path_order-total}
use Rattle.cs_inputs.proofs.SortedEntries.{searchable}
use Rattle.cs_inputs.proofs.InputNumbers.{place_from_search}
use Rattle.cs_inputs.proofs.inputs.place.Goals as goal

pub returns-clause-place : goal.returns-clause-place
returns-clause-place c =
    let found : IsBinarySearchResult (λ (e : Path × ℤ). path_order e.0 c.args.path.now) c.args.entries.now c.binary_search_by.result =
    c.binary_search_by.ensures.position (λ (e : Path × ℤ). path_order e.0 c.args.path.now)
    (always_returns_same _ _ _ (λ a r f' called. search rules)) in
    place_from_search c.binary_search_by.result
    (HoldsAt (λ (e : Path × ℤ). path_order e.0 c.args.path.now ≡ Equal) c.args.entries.now)
    (IsPartitionPoint (λ (e : Path × ℤ). path_order e.0 c.args.path.now ≡ Less) (λ (e : Path × ℤ). path_order e.0 c.args.path.now ≡ Greater)
    c.args.entries.now)
    (IsNonDecreasingBy (λ (e : Path × ℤ). ordering_index (path_order e.0 c.args.path.now)) c.args.entries.now)
    (searchable path_order-total c.args.entries.now c.args.path.now c.requires) found
