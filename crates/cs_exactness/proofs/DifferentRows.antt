-- If no two siblings have the same label, no two rows have the same chain, and so no two rows or ends are alike: for `AreDistinct`.
use Rattle.std.proofs.Common.{◌≡◌, ℕ, List, [], ◌∷◌, ◌++◌, length, refl, sym, ap, arith}
use Rattle.std.proofs.lemmas.List.{length-append}
use Rattle.cs_ast.specs.TypedProgram.{TypedProgram}
use Rattle.cs_events.specs.declared.event.Event.{Event}
use Rattle.cs_events.specs.declared.outcome.RunBudgets.{RunBudgets}
use Rattle.cs_cfg.specs.Graph.{Code}
use Rattle.cs_state.specs.Naming.{Naming}
use Rattle.cs_explored.specs.declared.explored.End.{End}
use Rattle.cs_explored.specs.declared.explored.Row.{Row}
use Rattle.cs_explored.specs.declared.watch.Rule.{Rule}
use Rattle.cs_exactness.specs.Chains.{IsChain, first, further}
use Rattle.cs_exactness.specs.Distinct.{SiblingsDiffer, AreDistinct}
use Rattle.cs_exactness.specs.Sources.{AreSourced}

-- a list with a last element isn't empty
some_last : {A : Type 0} (xs : List A) (x : A) → [] ≡ xs ++ x ∷ [] → ⊥
some_last xs x e =
    let many = ap length e in
    let all = length-append xs (x ∷ []) in
    omega (arith, many, all)

-- lists that are equal with their last elements are equal without them, and so are these
pub same_last : {A : Type 0} (xs ys : List A) (x y : A) → xs ++ x ∷ [] ≡ ys ++ y ∷ [] → (xs ≡ ys) × (x ≡ y)
same_last [] [] x y e = let same : x ≡ y = cc in (refl, same)
same_last [] (z ∷ ys) x y e = let rest : [] ≡ ys ++ y ∷ [] = cc in absurd (some_last ys y rest)
same_last (z ∷ xs) [] x y e = let rest : [] ≡ xs ++ x ∷ [] = cc in absurd (some_last xs x rest)
same_last (z ∷ xs) (w ∷ ys) x y e =
    let here : z ≡ w = cc in
    let rest : xs ++ x ∷ [] ≡ ys ++ y ∷ [] = cc in
    let both = same_last xs ys x y rest in
    (λ i. here i ∷ both.0 i, both.1)

module _ (rows : List Row) (siblings : SiblingsDiffer rows) where
  chains_differ : {one other : ℕ} {chain next : List Event} → IsChain rows one chain → IsChain rows other next → chain ≡ next → one ≡ other
  chains_differ (first there none) (first there' none') same = refl
  chains_differ (first there none) (further {event = event} {events = events} there' before at chain) same = absurd (some_last events event same)
  chains_differ (further {event = event} {events = events} there before at chain) (first there' none) same = absurd (some_last events event (sym same))
  chains_differ (further {number = one} {row = row} {event = event} {events = events} there before at chain)
      (further {number = other} {row = row'} {event = event'} {events = events'} there' before' at' chain') same =
      let both = same_last events events' event event' same in
      siblings one other row row' event event' there there' (chains_differ chain chain' both.0) at at' (ap (λ (e : Event). e.label) both.1)

module _ (code : Code) (program : TypedProgram) (entry : ℕ) (budgets : RunBudgets) (names : Naming) (rules : List Rule) (rows : List Row) (ends : List End)
    (Are : ℕ → Type 0) (sourced : AreSourced code program entry budgets names rules rows ends Are) where
  pub are_distinct : AreDistinct rows ends
  are_distinct = record {
    keys_differ = sourced.keys_differ;
    chains_differ = λ one other chain leads too. chains_differ rows sourced.siblings_differ leads too refl;
    siblings_differ = sourced.siblings_differ;
    ends_differ = sourced.ends_differ;
  }
