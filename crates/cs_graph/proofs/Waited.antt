-- Rows that are added to a worklist or taken from it: for the contracts of `Worklist`.
use Rattle.std.proofs.Common.{◌≡◌, ◌⊎◌, ◌<◌, ◌≤◌, ℕ, List, [], ◌∷◌, refl, sym, ap, ◌∙◌, inl, inr, subst, arith}
use Rattle.std.specs.List.{Contains, All}
use Rattle.std.specs.declared.cmp.Ordering.{Ordering}
use Rattle.std.specs.declared.cmp.Ordering.TheVariants.{Less, Equal, Greater}
use Rattle.std.specs.Ordering.{nat_cmp, ordering_then, match_ordering, MatchOrdering}
use Rattle.std.specs.BTreeSet.{insert_key}
use Rattle.std.specs.BTreeMap.Range.{IsLtBy}
use Rattle.std.proofs.lemmas.Cmp.{ranked}
use Rattle.std.proofs.lemmas.List.Elements.{Contains-append_right, Contains-append_cases, Contains-push_cases, Contains-get_or, All-contains}
use Rattle.cs_graph.specs.Waiting.{IsWaiting, HasRowsOnce, HasJoined, IsGiven}

abbrev pub Pair : Type 0
Pair = ℕ × ℕ

-- the order of the worklist
abbrev pub pair_cmp : Pair → Pair → Ordering
pair_cmp x y = ordering_then (nat_cmp x.0 y.0) (nat_cmp x.1 y.1)

contains_first : (x : Pair) (xs : List Pair) → Contains (x ∷ xs) x
contains_first x xs = Contains-get_or (x ∷ xs) 0 x (omega arith)

contains_rest : (x y : Pair) (xs : List Pair) → Contains xs y → Contains (x ∷ xs) y
contains_rest x y xs there = Contains-append_right (x ∷ []) xs y there

contains_none : (y : Pair) → Contains [] y → ⊥
contains_none y there = omega arith

contains_cases : (x y : Pair) (xs : List Pair) → Contains (x ∷ xs) y → (x ≡ y) ⊎ Contains xs y
contains_cases x y xs there =
    elim (Contains-append_cases (x ∷ []) xs y there) [
      | inl front ↦ elim (Contains-push_cases [] x y front) [ inl nowhere ↦ absurd (contains_none y nowhere) | inr e ↦ inl e ]
      | inr rest ↦ inr rest
    ]

-- how two numbers compare
compared : (x y : ℕ) (r : Ordering) → nat_cmp x y ≡ r → MatchOrdering r (x < y) (x ≡ y) (y < x)
compared x y r e = ranked x y r (sym e)

-- pairs that compare equal are the same
same_pair : (x y : Pair) → pair_cmp x y ≡ Equal → x ≡ y
same_pair x y e = by (nat_cmp x.0 y.0) refl e
  where
    second : (r : Ordering) → nat_cmp x.1 y.1 ≡ r → r ≡ Equal → x.1 ≡ y.1
    second Less at s = cc
    second Equal at s = compared x.1 y.1 Equal at
    second Greater at s = cc

    by : (r : Ordering) → nat_cmp x.0 y.0 ≡ r → ordering_then r (nat_cmp x.1 y.1) ≡ Equal → x ≡ y
    by Less at s = cc
    by Equal at s =
        let first = compared x.0 y.0 Equal at in
        let last = second (nat_cmp x.1 y.1) refl s in
        λ i. (first i, last i)
    by Greater at s = cc

-- the first number of a lesser pair isn't greater, and the pairs differ
lesser_first : (x y : Pair) → pair_cmp x y ≡ Less → x.0 ≤ y.0
lesser_first x y e = by (nat_cmp x.0 y.0) refl e
  where
    by : (r : Ordering) → nat_cmp x.0 y.0 ≡ r → ordering_then r (nat_cmp x.1 y.1) ≡ Less → x.0 ≤ y.0
    by Less at s = let h : x.0 < y.0 = compared x.0 y.0 Less at in omega arith
    by Equal at s = let h : x.0 ≡ y.0 = compared x.0 y.0 Equal at in omega arith
    by Greater at s = cc

lesser_differs : (x y : Pair) → pair_cmp x y ≡ Less → x.0 ≡ y.0 → x.1 ≡ y.1 → ⊥
lesser_differs x y e first last = by (nat_cmp x.0 y.0) refl e
  where
    second : (r : Ordering) → nat_cmp x.1 y.1 ≡ r → r ≡ Less → ⊥
    second Less at s = let h : x.1 < y.1 = compared x.1 y.1 Less at in omega arith
    second Equal at s = cc
    second Greater at s = cc

    by : (r : Ordering) → nat_cmp x.0 y.0 ≡ r → ordering_then r (nat_cmp x.1 y.1) ≡ Less → ⊥
    by Less at s = let h : x.0 < y.0 = compared x.0 y.0 Less at in omega arith
    by Equal at s = second (nat_cmp x.1 y.1) refl s
    by Greater at s = cc

inserted_is : (ks : List Pair) (k y : Pair) → Contains (insert_key pair_cmp ks k) y → (k ≡ y) ⊎ Contains ks y
inserted_is [] k y there = contains_cases k y [] there
inserted_is (x ∷ xs) k y there = by (pair_cmp k x) (λ rest. inserted_is xs k y rest) there
  where
    by : (r : Ordering) → (Contains (insert_key pair_cmp xs k) y → (k ≡ y) ⊎ Contains xs y)
        → Contains (match_ordering r (k ∷ x ∷ xs) (x ∷ xs) (x ∷ insert_key pair_cmp xs k)) y → (k ≡ y) ⊎ Contains (x ∷ xs) y
    by Less further h = contains_cases k y (x ∷ xs) h
    by Equal further h = inr h
    by Greater further h =
        elim (contains_cases x y (insert_key pair_cmp xs k) h) [
          | inl e ↦ inr (subst (Contains (x ∷ xs)) e (contains_first x xs))
          | inr rest ↦ elim (further rest) [ inl e ↦ inl e | inr old ↦ inr (contains_rest x y xs old) ]
        ]

inserted_there : (ks : List Pair) (k : Pair) → Contains (insert_key pair_cmp ks k) k
inserted_there [] k = contains_first k []
inserted_there (x ∷ xs) k = by (pair_cmp k x) (inserted_there xs k) (same_pair k x)
  where
    by : (r : Ordering) → Contains (insert_key pair_cmp xs k) k → (r ≡ Equal → k ≡ x)
        → Contains (match_ordering r (k ∷ x ∷ xs) (x ∷ xs) (x ∷ insert_key pair_cmp xs k)) k
    by Less further same = contains_first k (x ∷ xs)
    by Equal further same = subst (Contains (x ∷ xs)) (sym (same refl)) (contains_first x xs)
    by Greater further same = contains_rest x k (insert_key pair_cmp xs k) further

inserted_keeps : (ks : List Pair) (k y : Pair) → Contains ks y → Contains (insert_key pair_cmp ks k) y
inserted_keeps [] k y there = absurd (contains_none y there)
inserted_keeps (x ∷ xs) k y there = by (pair_cmp k x) (λ rest. inserted_keeps xs k y rest)
  where
    by : (r : Ordering) → (Contains xs y → Contains (insert_key pair_cmp xs k) y)
        → Contains (match_ordering r (k ∷ x ∷ xs) (x ∷ xs) (x ∷ insert_key pair_cmp xs k)) y
    by Less further = contains_rest k y (x ∷ xs) there
    by Equal further = there
    by Greater further =
        elim (contains_cases x y xs there) [
          | inl e ↦ subst (Contains (x ∷ insert_key pair_cmp xs k)) e (contains_first x (insert_key pair_cmp xs k))
          | inr rest ↦ contains_rest x y (insert_key pair_cmp xs k) (further rest)
        ]

-- a row that joins
pub joined : (visits row : ℕ) (before after : List Pair) → after ≡ insert_key pair_cmp before (visits, row) → HasJoined visits row before after
joined visits row before after e v r = (
  λ there. elim (inserted_is before (visits, row) (v, r) (subst (λ l. Contains l (v, r)) e there)) [
    | inl same ↦ inl (ap (λ (p : Pair). p.0) (sym same), ap (λ (p : Pair). p.1) (sym same))
    | inr old ↦ inr old
  ],
  λ either. subst (λ l. Contains l (v, r)) (sym e)
      (elim either [
        | inl same ↦ subst (Contains (insert_key pair_cmp before (visits, row))) (λ i. (sym same.0 i, sym same.1 i))
            (inserted_there before (visits, row))
        | inr old ↦ inserted_keeps before (visits, row) (v, r) old
      ]),
)

-- no row waits twice then, if this one didn't wait before
pub joined_once : (visits row : ℕ) (before after : List Pair) → HasJoined visits row before after → ((other : ℕ) → IsWaiting before other row → ⊥)
    → HasRowsOnce before → HasRowsOnce after
joined_once visits row before after joins new once v w r one other =
    elim ((joins v r).0 one) [
      | inl same ↦ elim ((joins w r).0 other) [
        | inl too ↦ same.0 ∙ sym too.0
        | inr old ↦ absurd (new w (subst (IsWaiting before w) same.1 old))
      ]
      | inr old ↦ elim ((joins w r).0 other) [
        | inl too ↦ absurd (new v (subst (IsWaiting before v) too.1 old))
        | inr older ↦ once v w r old older
      ]
    ]

-- the rows that remain wait once
pub left_once : (k : Pair) (before after : List Pair) → before ≡ k ∷ after → HasRowsOnce before → HasRowsOnce after
left_once k before after e once v w r one other =
    let in_before : (x : ℕ) → IsWaiting after x r → IsWaiting before x r =
    λ x there. subst (λ l. Contains l (x, r)) (sym e) (contains_rest k (x, r) after there) in
    once v w r (in_before v one) (in_before w other)

-- a row is taken
pub given : (k : Pair) (before after : List Pair) → before ≡ k ∷ after → All (IsLtBy pair_cmp k) after → HasRowsOnce before
    → IsGiven k.1 before after
given k before after e above once =
    let in_before : (y : Pair) → Contains after y → Contains before y =
    λ y there. subst (λ l. Contains l y) (sym e) (contains_rest k y after there) in
    let waited : Contains before k = subst (λ l. Contains l k) (sym e) (contains_first k after) in
    let lesser : (y : Pair) → Contains after y → pair_cmp k y ≡ Less =
    λ y there. All-contains (IsLtBy pair_cmp k) after y above there in
    let split : (y : Pair) → Contains before y → (k ≡ y) ⊎ Contains after y =
    λ y there. contains_cases k y after (subst (λ l. Contains l y) e there) in
    record {
      visits = k.0;
      waited = waited;
      least = λ v r there. elim (split (v, r) there) [
        | inl same ↦ let h : k.0 ≡ v = ap (λ (p : Pair). p.0) same in omega arith
        | inr rest ↦ lesser_first k (v, r) (lesser (v, r) rest)
      ];
      gone = λ v there. lesser_differs k (v, k.1) (lesser (v, k.1) there) (once k.0 v k.1 waited (in_before (v, k.1) there)) refl;
      others = λ v r there differs. elim (split (v, r) there) [
        | inl same ↦ absurd (differs (ap (λ (p : Pair). p.1) (sym same)))
        | inr rest ↦ rest
      ];
      none_more = λ v r. in_before (v, r);
    }
