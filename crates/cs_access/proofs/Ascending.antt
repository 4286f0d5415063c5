-- Lists of numbers in ascending order: for the contracts of `all_numbers`, `followed_numbers` and `reach`.
use Rattle.std.proofs.Common.{◌≡◌, ◌⊎◌, ◌<◌, ◌≤◌, ◌+◌, ℕ, zero, suc, ℤ, pos, ◌+ℤ◌, ◌<ℤ◌, ◌≤ℤ◌, List, []}
use Rattle.std.proofs.Common.{◌∷◌, ◌++◌, length, map, reverse}
use Rattle.std.proofs.Common.{true, slice_index_or, get_or, take, refl, sym, ap, ◌∙◌, subst, inl, inr, arith}
use Rattle.std.specs.Prelude.{◌↔◌}
use Rattle.std.specs.List.{Contains}
use Rattle.std.proofs.lemmas.Bool.{false≢true, or_cases, or_left, or_right}
use Rattle.std.proofs.lemmas.Grind.{reverse_onto}
use Rattle.std.proofs.lemmas.Int.{ints, by_lt_z}
use Rattle.std.proofs.lemmas.List.{map-append, take_all}
use Rattle.std.proofs.lemmas.List.Elements.{Contains-append_left, Contains-push, Contains-push_cases}
use Rattle.cs_ranges.specs.declared.range_set.Interval.{Interval}
use Rattle.cs_ranges.specs.Interval.{IsProper, in_interval}
use Rattle.cs_ranges.specs.RangeSet.{contains, IsSpread, IsSpreadFrom, IsLeast, IsGreatest, IsLeastAbs, IsNearest}
use Rattle.cs_ranges.proofs.Members.{in_interval_yields, contains-nil, contains-cons, contains-more}
use Rattle.cs_ranges.proofs.Spread.{IsSpreadFrom-at}
use Rattle.cs_access.specs.Numbers.{IsAscending, IsBelow, IsListing, AreAdded, AreFollowed, HasEach}

module _ {A : Type 0} where
  pub first_is : (x : A) (xs : List A) → Contains (x ∷ xs) x
  first_is x xs = (zero, omega arith, refl)

  pub later_is : (x : A) (xs : List A) (y : A) → Contains xs y → Contains (x ∷ xs) y
  later_is x xs y has = (suc has.0, omega (arith, has.1), has.2)

  pub nothing_is : (y : A) → Contains [] y → ⊥
  nothing_is y has = absurd (omega (arith, has.1))

  first_or_later : (x : A) (xs : List A) (y : A) (k : ℕ) → k < length (x ∷ xs) → slice_index_or (x ∷ xs) k y ≡ y → (x ≡ y) ⊎ Contains xs y
  first_or_later x xs y zero within is = inl is
  first_or_later x xs y (suc k) within is = inr (k, omega arith, is)

  pub one_of : (x : A) (xs : List A) (y : A) → Contains (x ∷ xs) y → (x ≡ y) ⊎ Contains xs y
  one_of x xs y has = first_or_later x xs y has.0 has.1 has.2

  pub in_reverse : (xs : List A) (y : A) → Contains xs y → Contains (reverse xs) y
  in_reverse [] y has = absurd (nothing_is y has)
  in_reverse (x ∷ xs) y has = subst (λ l. Contains l y) (sym (reverse_onto xs x [])) (elim (one_of x xs y has) [
    | inl same ↦ subst (Contains (reverse xs ++ x ∷ [])) same (Contains-push (reverse xs) x)
    | inr later ↦ Contains-append_left (reverse xs) (x ∷ []) y (in_reverse xs y later)
  ])

  pub from_reverse : (xs : List A) (y : A) → Contains (reverse xs) y → Contains xs y
  from_reverse [] y has = has
  from_reverse (x ∷ xs) y has =
      elim (Contains-push_cases (reverse xs) x y (subst (λ l. Contains l y) (reverse_onto xs x []) has)) [
        | inl before ↦ later_is x xs y (from_reverse xs y before)
        | inr same ↦ subst (Contains (x ∷ xs)) same (first_is x xs)
      ]

module _ {A B : Type 0} (f : A → B) where
  pub in_map : (xs : List A) (x : A) → Contains xs x → Contains (map f xs) (f x)
  in_map [] x has = absurd (nothing_is x has)
  in_map (y ∷ xs) x has = elim (one_of y xs x has) [
    | inl same ↦ subst (λ z. Contains (map f (y ∷ xs)) (f z)) same (first_is (f y) (map f xs))
    | inr later ↦ later_is (f y) (map f xs) (f x) (in_map xs x later)
  ]

  pub from_map : (xs : List A) (y : B) → Contains (map f xs) y → (x : A) × Contains xs x × (f x ≡ y)
  from_map [] y has = absurd (nothing_is y has)
  from_map (x ∷ xs) y has = elim (one_of (f x) (map f xs) y has) [
    | inl same ↦ (x, first_is x xs, same)
    | inr later ↦ let found = from_map xs y later in (found.0, later_is x xs found.0 found.1, found.2)
  ]

pub ascending_push : (xs : List ℤ) (x : ℤ) → IsAscending xs → IsBelow xs x → IsAscending (xs ++ x ∷ [])
ascending_push [] x up below = tt
ascending_push (a ∷ []) x up below = (below a (first_is a []), tt)
ascending_push (a ∷ (b ∷ xs)) x up below = (up.0, ascending_push (b ∷ xs) x up.1 (λ y has. below y (later_is a (b ∷ xs) y has)))

pub ascending_first : (x : ℤ) (xs : List ℤ) → ((y : ℤ) → Contains xs y → x <ℤ y) → IsAscending xs → IsAscending (x ∷ xs)
ascending_first x [] above up = tt
ascending_first x (y ∷ xs) above up = (above y (first_is y xs), up)

pub ascending_rest : (x : ℤ) (xs : List ℤ) → IsAscending (x ∷ xs) → IsAscending xs
ascending_rest x [] up = tt
ascending_rest x (y ∷ xs) up = up.1

pub ascending_above : (x : ℤ) (xs : List ℤ) → IsAscending (x ∷ xs) → (y : ℤ) → Contains xs y → x <ℤ y
ascending_above x [] up y has = absurd (nothing_is y has)
ascending_above x (z ∷ xs) up y has = elim (one_of z xs y has) [
  | inl same ↦ subst (λ n. x <ℤ n) same up.0
  | inr later ↦ let more = ascending_above z xs up.1 y later in omega (arith, ints, up.0)
]

module _ (f : ℤ → ℤ) where
  pub ascending_map : ((x y : ℤ) → x <ℤ y → f x <ℤ f y) → (xs : List ℤ) → IsAscending xs → IsAscending (map f xs)
  ascending_map rises [] up = tt
  ascending_map rises (x ∷ []) up = tt
  ascending_map rises (x ∷ (y ∷ xs)) up = (rises x y up.0, ascending_map rises (y ∷ xs) up.1)

  pub ascending_map-reverse : ((x y : ℤ) → x <ℤ y → f y <ℤ f x) → (xs : List ℤ) → IsAscending xs → IsAscending (map f (reverse xs))
  ascending_map-reverse falls [] up = tt
  ascending_map-reverse falls (x ∷ xs) up =
      subst IsAscending (sym (ap (map f) (reverse_onto xs x []) ∙ map-append f (reverse xs) (x ∷ [])))
      (ascending_push (map f (reverse xs)) (f x) (ascending_map-reverse falls xs (ascending_rest x xs up))
      (λ y has.
      let found = from_map f (reverse xs) y has in
      subst (λ n. n <ℤ f x) found.2 (falls x found.0 (ascending_above x xs up found.0 (from_reverse xs found.0 found.1)))))

-- the interval's test, as bounds
bounds_of : (i : Interval) (x : ℤ) → in_interval i x ≡ true → (i.low ≤ℤ x) × (x ≤ℤ i.high)
bounds_of i x within = elim (in_interval_yields i x) [
  | inl inside ↦ (inside.1, inside.2)
  | inr outside ↦ absurd (false≢true (sym outside.0 ∙ within))
]

within_bounds : (i : Interval) (x : ℤ) → i.low ≤ℤ x → x ≤ℤ i.high → in_interval i x ≡ true
within_bounds i x from upto = grind (arith, ints, in_interval_yields i x)

below_next : (b : ℤ) (s : List Interval) (k : ℕ) (d : Interval) (x : ℤ) → IsSpreadFrom b s → k < length s → contains (take k s) x ≡ true
    → x <ℤ (get_or s k d).low
below_next b [] k d x spread within has = absurd (omega arith)
below_next b (i ∷ s) zero d x spread within has = absurd (false≢true (sym (contains-nil x) ∙ has))
below_next b (i ∷ s) (suc k) d x spread within has =
    elim (or_cases (in_interval i x) (contains (take k s) x) (sym (contains-cons i (take k s) x) ∙ has)) [
      | inl here ↦
          let bounds = bounds_of i x here in
          let next = IsSpreadFrom-at (i.high +ℤ pos 2) s k d spread.3 (omega arith) in
          omega (arith, ints, bounds.1, next.0)
      | inr later ↦ below_next (i.high +ℤ pos 2) s k d x spread.3 (omega arith) later
    ]

pub listing_none : (s : List Interval) (numbers : List ℤ) → numbers ≡ [] → IsListing (take 0 s) numbers
listing_none s numbers none = subst (IsListing (take 0 s)) (sym none) (record {
  ascending = tt;
  members = λ x. (λ has. absurd (false≢true (sym (contains-nil x) ∙ has)), λ has. absurd (nothing_is x has));
})

module _ (s : List Interval) (k : ℕ) (d : Interval) (spread : IsSpread s) (within : k < length s) where
  pub proper_here : IsProper (get_or s k d)
  proper_here = let at = IsSpreadFrom-at _ s k d spread within in record { from = at.0; ordered = at.1; upto = at.2 }

  module _ (numbers : List ℤ) (listing : IsListing (take k s) numbers) where
    pub listing_below : IsBelow numbers (get_or s k d).low
    listing_below x has = below_next _ s k d x spread within ((listing.members x).1 has)

    pub listing_more : (more : List ℤ) → AreAdded numbers (get_or s k d).low (get_or s k d).high more → IsListing (take (k + 1) s) more
    listing_more more added = record {
      ascending = added.ascending;
      members = λ x. (
        λ has. (added.members x).1
            (elim (or_cases (contains (take k s) x) (in_interval (get_or s k d) x) (sym (contains-more s k d x within) ∙ has)) [
              | inl before ↦ inl ((listing.members x).0 before)
              | inr here ↦ inr (bounds_of (get_or s k d) x here)
            ]),
        λ has. contains-more s k d x within ∙ elim ((added.members x).0 has) [
          | inl before ↦ or_left (contains (take k s) x) (in_interval (get_or s k d) x) ((listing.members x).1 before)
          | inr here ↦ or_right (contains (take k s) x) (in_interval (get_or s k d) x) (within_bounds (get_or s k d) x here.0 here.1)
        ],
      );
    }

pub listing_all : (s : List Interval) (k : ℕ) (numbers : List ℤ) → length s ≤ k → IsListing (take k s) numbers → IsListing s numbers
listing_all s k numbers over listing = subst (λ l. IsListing l numbers) (take_all k s over) listing

-- the earlier numbers and those between two bounds, in order
pub record AreSoFar (before : List ℤ) (low next : ℤ) (numbers : List ℤ) : Type 0 where
  pub ascending : IsAscending numbers
  pub members : (x : ℤ) → Contains numbers x ↔ (Contains before x ⊎ ((low ≤ℤ x) × (x <ℤ next)))

pub so_far_none : (before numbers : List ℤ) (low next : ℤ) → next ≡ low → numbers ≡ before → IsAscending before
    → AreSoFar before low next numbers
so_far_none before numbers low next start same up =
    subst (λ n. AreSoFar before low n numbers) (sym start) (subst (AreSoFar before low low) (sym same) (record {
      ascending = up;
      members = λ x. (
        λ has. inl has,
        λ has. elim has [
          | inl old ↦ old
          | inr between ↦ absurd (omega (arith, ints, between.0, between.1))
        ],
      );
    }))

so_far_push : (before numbers : List ℤ) (low next : ℤ) → IsBelow before low → low ≤ℤ next → AreSoFar before low next numbers
    → AreSoFar before low (next +ℤ pos 1) (numbers ++ next ∷ [])
so_far_push before numbers low next below from so_far = record {
  ascending = ascending_push numbers next so_far.ascending (λ y has. elim ((so_far.members y).0 has) [
    | inl old ↦ let less = below y old in omega (arith, ints)
    | inr between ↦ between.1
  ]);
  members = λ x. (
    λ has. elim (Contains-push_cases numbers next x has) [
      | inl earlier ↦ elim ((so_far.members x).0 earlier) [
        | inl old ↦ inl old
        | inr between ↦ inr (between.0, omega (arith, ints, between.1))
      ]
      | inr same ↦ inr (omega (arith, ints, same), omega (arith, ints, same))
    ],
    λ has. elim has [
      | inl old ↦ Contains-append_left numbers (next ∷ []) x ((so_far.members x).1 (inl old))
      | inr between ↦ by_lt_z x next
          (λ less. Contains-append_left numbers (next ∷ []) x ((so_far.members x).1 (inr (between.0, less))))
          (λ least. subst (Contains (numbers ++ next ∷ [])) (omega (arith, ints, least, between.1)) (Contains-push numbers next))
    ],
  );
}

pub so_far_more : (before numbers more : List ℤ) (low number next value : ℤ) → IsBelow before low → low ≤ℤ number
    → AreSoFar before low number numbers
    → more ≡ numbers ++ value ∷ [] → value ≡ number → next ≡ number +ℤ pos 1 → AreSoFar before low next more
so_far_more before numbers more low number next value below from so_far pushed same step =
    subst (λ n. AreSoFar before low n more) (sym step)
    (subst (AreSoFar before low (number +ℤ pos 1)) (sym (pushed ∙ ap (λ n. numbers ++ n ∷ []) same))
    (so_far_push before numbers low number below from so_far))

pub so_far_all : (before numbers : List ℤ) (low high next : ℤ) → high <ℤ next → next ≤ℤ (high +ℤ pos 1) → AreSoFar before low next numbers
    → AreAdded before low high numbers
so_far_all before numbers low high next over upto so_far = record {
  ascending = so_far.ascending;
  members = λ x. (
    λ has. elim ((so_far.members x).0 has) [
      | inl old ↦ inl old
      | inr between ↦ inr (between.0, omega (arith, ints, between.1))
    ],
    λ has. (so_far.members x).1 (elim has [
      | inl old ↦ inl old
      | inr between ↦ inr (between.0, omega (arith, ints, between.1))
    ]),
  );
}

nearest_same : (x y : ℤ) → IsNearest x y → IsNearest y x → x ≡ y
nearest_same x y one other = omega (arith, ints, one, other)

-- the followed numbers are these three
pub followed_are : (s : List Interval) (least nearest greatest : ℤ) (numbers : List ℤ) → IsLeast s least → IsLeastAbs s nearest
    → IsGreatest s greatest → HasEach least nearest greatest numbers → AreFollowed s numbers
followed_are s least nearest greatest numbers is_least is_nearest is_greatest each = record {
  ascending = each.ascending;
  members = λ x. (
    λ has. elim ((each.members x).0 has) [
      | inl same ↦ inl (subst (IsLeast s) (sym same) is_least)
      | inr rest ↦ elim rest [
        | inl same ↦ inr (inl (subst (IsLeastAbs s) (sym same) is_nearest))
        | inr same ↦ inr (inr (subst (IsGreatest s) (sym same) is_greatest))
      ]
    ],
    λ follows. (each.members x).1 (elim follows [
      | inl also ↦
          let below = also.least least is_least.member in
          let above = is_least.least x also.member in
          inl (omega (arith, ints))
      | inr rest ↦ elim rest [
        | inl also ↦ inr (inl (nearest_same x nearest (also.nearest nearest is_nearest.member) (is_nearest.nearest x also.member)))
        | inr also ↦
            let above = also.greatest greatest is_greatest.member in
            let below = is_greatest.greatest x also.member in
            inr (inr (omega (arith, ints)))
      ]
    ]),
  );
}

-- three numbers, each pushed if the next one is greater
abbrev pub IsPushed : ℤ → ℤ → List ℤ → List ℤ → Type 0
IsPushed number next before after = ((number <ℤ next) × (after ≡ before ++ number ∷ [])) ⊎ ((next ≤ℤ number) × (after ≡ before))

-- a number that equals another one in the list
equal_is : (xs : List ℤ) (x y : ℤ) → x ≡ y → Contains xs y → Contains xs x
equal_is xs x y same has = subst (Contains xs) (sym same) has

only_is : (a x : ℤ) → Contains (a ∷ []) x → x ≡ a
only_is a x has = elim (one_of a [] x has) [
  | inl same ↦ sym same
  | inr none ↦ absurd (nothing_is x none)
]

one_of_two : (a b x : ℤ) → Contains (a ∷ b ∷ []) x → (x ≡ a) ⊎ (x ≡ b)
one_of_two a b x has = elim (one_of a (b ∷ []) x has) [
  | inl same ↦ inl (sym same)
  | inr later ↦ inr (only_is b x later)
]

one_of_three : (a b c x : ℤ) → Contains (a ∷ b ∷ c ∷ []) x → (x ≡ a) ⊎ (x ≡ b) ⊎ (x ≡ c)
one_of_three a b c x has = elim (one_of a (b ∷ c ∷ []) x has) [
  | inl same ↦ inl (sym same)
  | inr later ↦ inr (one_of_two b c x later)
]

-- a list that contains the first, the second and the third contains each of the three
has_each : (a b c : ℤ) (xs : List ℤ) → Contains xs a → Contains xs b → Contains xs c → (x : ℤ) → (x ≡ a) ⊎ (x ≡ b) ⊎ (x ≡ c)
    → Contains xs x
has_each a b c xs first second third x (inl same) = equal_is xs x a same first
has_each a b c xs first second third x (inr (inl same)) = equal_is xs x b same second
has_each a b c xs first second third x (inr (inr same)) = equal_is xs x c same third

pub each_once_are : (a b c : ℤ) (one two : List ℤ) → a ≤ℤ b → b ≤ℤ c → IsPushed a b [] one → IsPushed b c one two
    → HasEach a b c (two ++ c ∷ [])
each_once_are a b c one two low high (inl p) (inl q) =
    subst (λ l. HasEach a b c (l ++ c ∷ [])) (sym (q.1 ∙ ap (λ l. l ++ b ∷ []) p.1)) (record {
      ascending = (p.0, (q.0, tt));
      members = λ x. (
        one_of_three a b c x,
        has_each a b c (a ∷ b ∷ c ∷ []) (first_is a (b ∷ c ∷ [])) (later_is a (b ∷ c ∷ []) b (first_is b (c ∷ [])))
            (later_is a (b ∷ c ∷ []) c (later_is b (c ∷ []) c (first_is c []))) x,
      );
    })
each_once_are a b c one two low high (inl p) (inr q) =
    let same : b ≡ c = omega (arith, ints, high, q.0) in
    let last : Contains (a ∷ c ∷ []) c = later_is a (c ∷ []) c (first_is c []) in
    subst (λ l. HasEach a b c (l ++ c ∷ [])) (sym (q.1 ∙ p.1)) (record {
      ascending = (subst (λ n. a <ℤ n) same p.0, tt);
      members = λ x. (
        λ has. elim (one_of_two a c x has) [
          | inl first ↦ inl first
          | inr third ↦ inr (inr third)
        ],
        has_each a b c (a ∷ c ∷ []) (first_is a (c ∷ [])) (equal_is (a ∷ c ∷ []) b c same last) last x,
      );
    })
each_once_are a b c one two low high (inr p) (inl q) =
    let same : a ≡ b = omega (arith, ints, low, p.0) in
    let first : Contains (b ∷ c ∷ []) b = first_is b (c ∷ []) in
    subst (λ l. HasEach a b c (l ++ c ∷ [])) (sym (q.1 ∙ ap (λ l. l ++ b ∷ []) p.1)) (record {
      ascending = (q.0, tt);
      members = λ x. (
        λ has. inr (one_of_two b c x has),
        has_each a b c (b ∷ c ∷ []) (equal_is (b ∷ c ∷ []) a b same first) first (later_is b (c ∷ []) c (first_is c [])) x,
      );
    })
each_once_are a b c one two low high (inr p) (inr q) =
    let same : b ≡ c = omega (arith, ints, high, q.0) in
    let first : a ≡ c = omega (arith, ints, low, p.0, high, q.0) in
    subst (λ l. HasEach a b c (l ++ c ∷ [])) (sym (q.1 ∙ p.1)) (record {
      ascending = tt;
      members = λ x. (
        λ has. inr (inr (only_is c x has)),
        has_each a b c (c ∷ []) (equal_is (c ∷ []) a c first (first_is c [])) (equal_is (c ∷ []) b c same (first_is c [])) (first_is c []) x,
      );
    })

-- a push, by the number that was pushed
pub pushed_as : (before old after : List ℤ) (value number : ℤ) → old ≡ before → after ≡ old ++ value ∷ [] → value ≡ number
    → after ≡ before ++ number ∷ []
pushed_as before old after value number same pushed is = pushed ∙ (λ j. same j ++ is j ∷ [])
