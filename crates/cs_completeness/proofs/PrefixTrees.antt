-- The chains of an exact graph's rows are the nodes of a prefix tree, and a row that is on another row's chain has a child: for `IsOutOfNodes`.
use Rattle.std.proofs.Common.{◌≡◌, ◌⊎◌, inl, inr, ◌<◌, ◌≤◌, ℕ, List, [], ◌∷◌, ◌++◌, length}
use Rattle.std.proofs.Common.{refl, sym, ap, ◌∙◌, subst, arith}
use Rattle.std.proofs.lemmas.Option.{same_Some}
use Rattle.std.proofs.lemmas.List.{length-append}
use Rattle.cs_events.specs.declared.event.Event.{Event}
use Rattle.cs_explored.specs.declared.explored.Row.{Row}
use Rattle.cs_exactness.specs.Chains.{IsChain, first, further, IsGuessedAlong, here, before}
use Rattle.cs_exactness.specs.Distinct.{ChainsDiffer}
use Rattle.cs_exactness.specs.FoundFaults.{HasChild}
use Rattle.cs_exactness.proofs.Chains.{first_chain, one_chain}
use Rattle.cs_findings.specs.OutOfNodes.{IsPrefixTree}

-- if xs with one element at its end begins with ys and y, then xs is ys, or xs begins with ys and y
split_last : {A : Type 0} (xs : List A) (x : A) (ys : List A) (y : A) (more : List A) → xs ++ x ∷ [] ≡ ys ++ y ∷ more
    → (xs ≡ ys) ⊎ ((rest : List A) × (xs ≡ ys ++ y ∷ rest))
split_last [] x [] y more e = inl refl
split_last [] x (z ∷ ys) y more e =
    let one = ap length e in
    let all = length-append ys (y ∷ more) in
    absurd (omega (arith, one, all))
split_last (w ∷ xs) x [] y more e = let same : w ≡ y = cc in inr (xs, λ i. same i ∷ xs)
split_last (w ∷ xs) x (z ∷ ys) y more e =
    let same : w ≡ z = cc in
    let rest : xs ++ x ∷ [] ≡ ys ++ y ∷ more = cc in
    elim (split_last xs x ys y more rest) [
      | inl equal ↦ inl (λ i. same i ∷ equal i)
      | inr longer ↦ inr (longer.0, λ i. same i ∷ longer.1 i)
    ]

nothing_more : {A : Type 0} (xs : List A) (x : A) (more : List A) → [] ≡ xs ++ x ∷ more → ⊥
nothing_more xs x more e =
    let none = ap length e in
    let all = length-append xs (x ∷ more) in
    omega (arith, none, all)

module _ (rows : List Row) where
  -- a row whose chain is the beginning of a longer one has a child
  pub has_child : ChainsDiffer rows → {other : ℕ} {longer : List Event} → IsChain rows other longer → (number : ℕ) (chain : List Event)
      → IsChain rows number chain → (event : Event) (more : List Event) → longer ≡ chain ++ event ∷ more → HasChild rows number
  has_child differ (first there none) number chain leads event more is = absurd (nothing_more chain event more is)
  has_child differ (further {number = other} {row = row} {event = last} {events = events} there earlier at onward) number chain leads event more is =
      elim (split_last events last chain event more is) [
        | inl same ↦
            let parent : row.parent ≡ number = differ row.parent number chain (subst (IsChain rows row.parent) same onward) leads in
            (other, row, there, λ it. omega (arith, it, parent, earlier), parent)
        | inr rest ↦ has_child differ onward number chain leads event rest.0 rest.1
      ]

  -- a guess along the chain of a row is at one of the chain's events
  pub guessed_within : {number at : ℕ} {sym : _} → IsGuessedAlong rows number at sym → (chain : List Event) → IsChain rows number chain
      → at ≤ length chain
  guessed_within (here {events = events} there guessed leads) chain other =
      let same = ap length (one_chain rows leads other) in
      omega (arith, same)
  guessed_within (before {row = row} there earlier along) chain (first there' none) = absurd (omega (arith, earlier))
  guessed_within (before {row = row} there earlier along) chain (further {row = found} {event = event} {events = events} there' earlier' at leads) =
      let same : found ≡ row = same_Some found row (sym there' ∙ there) in
      let fewer = guessed_within along events (subst (λ (r : Row). IsChain rows r.parent events) same leads) in
      let all = length-append events (event ∷ []) in
      omega (arith, fewer, all)

  module _ (last : ℕ) (events : ℕ → List Event) (leads : (number : ℕ) → number ≤ last → IsChain rows number (events number)) where
    -- a chain is an earlier one, with one event at its end
    grown : {number : ℕ} {chain : List Event} → IsChain rows number chain → 0 < number → number ≤ last
        → (earlier : ℕ) × (event : Event) × (earlier < number) × (chain ≡ events earlier ++ event ∷ [])
    grown (first there none) some within = absurd (omega (arith, some))
    grown (further {number = number} {row = row} {event = event} {events = passed} there earlier at onward) some within =
        let same = one_chain rows onward (leads row.parent (omega (arith, earlier, within))) in
        (row.parent, event, earlier, λ i. same i ++ event ∷ [])

    pub prefix_tree : ChainsDiffer rows → IsPrefixTree last events
    prefix_tree differ = record {
      root = first_chain rows (leads 0 (omega arith));
      grows = λ number some within. grown (leads number within) some within;
      differ = λ one other here there same.
          differ one other (events one) (leads one here) (subst (IsChain rows other) (sym same) (leads other there));
    }
