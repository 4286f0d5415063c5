use Rattle.std.proofs.Common.{◌≡◌, ◌<◌, ◌≤◌, IsTrue, false, length, take, get_or, refl, sym, ◌∙◌, subst, arith, rules, inl, inr}
use Rattle.std.specs.Prelude.{Contains}
use Rattle.std.specs.Map.{keys_of}
use Rattle.std.proofs.lemmas.List.{take_all}
use Rattle.std.proofs.lemmas.List.Elements.{Contains-push_cases}
use Rattle.std.proofs.lemmas.Map.Entries.{length-keys_of}
use Rattle.cs_witness.proofs.Keys.{keys_push, key_at}
use Rattle.cs_witness.proofs.listing.lists.Goals as goal

pub loop-entry-init : goal.loop-entry-init
loop-entry-init c here = let before = here.1 in omega arith

pub loop-entry-preserved : goal.loop-entry-preserved
loop-entry-preserved c here =
    let entries = c.list-entry-items.result.now in
    let i = c.loop-entry.entry-index in
    let entry = c.entry-item.result in
    let path = c.args.path.now in
    let below : i < length entries = omega arith in
    let no : c.same_path.result ≡ false = search rules in
    let pushed = subst (λ ks. Contains ks path) (keys_push entries i entry below c.entry-item.is) here in
    elim (Contains-push_cases (keys_of (take i entries)) entry.0 path pushed) [
      | inl earlier ↦ c.loop-entry.invariant earlier
      | inr same ↦ (let yes = c.same_path.ensures.1 same in cc)
    ]

pub returns-then-same_path-clause-listed : goal.returns-then-same_path-clause-listed
returns-then-same_path-clause-listed c =
    let entries = c.list-entry-items.result.now in
    let i = c.loop-entry.entry-index in
    let entry = c.entry-item.result in
    let path = c.args.path.now in
    let below : i < length entries = omega arith in
    let n = length-keys_of entries in
    let yes : IsTrue c.same_path.result = search rules in
    let same : entry.0 ≡ path = c.same_path.ensures.0 yes in
    let key : get_or (keys_of entries) i path ≡ path =
    subst (λ p. get_or (keys_of entries) i p ≡ p) same (key_at entries i entry below c.entry-item.is) in
    let here : Contains (keys_of entries) path = (i, omega arith, key) in
    ((λ _. subst (λ l. Contains (keys_of l) path) c.list-entry-items.ensures.value here), (λ _. refl))

pub returns-clause-listed : goal.returns-clause-listed
returns-clause-listed c =
    let entries = c.list-entry-items.result.now in
    let i = c.loop-entry.entry-index in
    let path = c.args.path.now in
    let none : length entries ≤ i = omega arith in (
      λ no. absurd (cc),
      λ here. absurd (c.loop-entry.invariant
          (subst (λ l. Contains (keys_of l) path) (sym c.list-entry-items.ensures.value ∙ sym (take_all i entries none)) here)),
    )
