use Rattle.std.proofs.Common.{◌≡◌, rules}
use Rattle.std.proofs.lemmas.Fn.{always_returns_same}
use Rattle.std.specs.List.{HoldsAt}
use Rattle.std.specs.List.Sorted.{IsBinarySearchResult, IsNonDecreasingBy, IsPartitionPoint}
use Rattle.std.specs.Ordering.{ordering_index}
use Rattle.std.specs.declared.cmp.Ordering.TheVariants.{Less, Equal, Greater}
use Rattle.cs_inputs.proofs.InputNumbers.{place_from_search}
use Rattle.cs_results.specs.declared.finding.Finding.{Finding}
use Rattle.cs_findings.specs.GoodEntries.{outcome_key, key_order}
use Rattle.cs_witness.proofs.Insertions.{searchable}
use Rattle.cs_witness.proofs.Orders.{key_order-total}
use Rattle.cs_witness.proofs.witness.place_in.Goals as goal

pub returns-clause-place : goal.returns-clause-place
returns-clause-place c =
    let findings = c.args.findings.now in
    let key = outcome_key c.args.what in
    let found : IsBinarySearchResult (λ (f : Finding). key_order (outcome_key f.what) key) findings c.binary_search_by.result =
    c.binary_search_by.ensures.position (λ (f : Finding). key_order (outcome_key f.what) key) (always_returns_same _ _ _ (λ a r f' called. search rules)) in
    place_from_search c.binary_search_by.result (HoldsAt (λ (f : Finding). key_order (outcome_key f.what) key ≡ Equal) findings)
    (IsPartitionPoint (λ (f : Finding). key_order (outcome_key f.what) key ≡ Less) (λ (f : Finding). key_order (outcome_key f.what) key ≡ Greater)
    findings)
    (IsNonDecreasingBy (λ (f : Finding). ordering_index (key_order (outcome_key f.what) key)) findings)
    (searchable key_order-total (λ (f : Finding). outcome_key f.what) findings key c.requires) found
