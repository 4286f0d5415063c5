-- The offsets of an access and their states: for the contract of `reach`.
use Rattle.std.proofs.Common.{◌≡◌, ◌≢◌, ◌<◌, ◌≤◌, ◌+◌, ◌^◌, ◌-◌, ℕ, zero, suc, Bool, true, false, ◌&&◌, ℤ, pos}
use Rattle.std.proofs.Common.{negsuc, neg_ℤ, ◌-ℤ◌, ◌*ℤ◌}
use Rattle.std.proofs.Common.{◌<ℤ◌, ◌≤ℤ◌}
use Rattle.std.proofs.Common.{int_le, List, [], ◌∷◌, ◌++◌, map, reverse, length, take, get_or, Option, None, Some, min, refl, sym, ap, ◌∙◌}
use Rattle.std.proofs.Common.{subst}
use Rattle.std.proofs.Common.{inl, inr, arith}
use Rattle.std.specs.Prelude.{int_lt, if◌then◌else◌}
use Rattle.std.specs.Ordering.{int_eq}
use Rattle.std.specs.List.{All, Contains}
use Rattle.std.proofs.lemmas.Bool.{false≢true}
use Rattle.std.proofs.lemmas.Int.{ints, by_lt_z}
use Rattle.std.proofs.lemmas.Option.{none-some, same_Some}
use Rattle.std.proofs.lemmas.List.{map-append, take_more}
use Rattle.std.proofs.lemmas.List.Elements.{All-nil, All-cons}
use Rattle.cs_ranges.specs.declared.range_set.Interval.{Interval}
use Rattle.cs_ranges.specs.Affine.{affine}
use Rattle.cs_ranges.specs.RangeSet.{contains, IsCount}
use Rattle.cs_ranges.proofs.AffineLaws.{affine-affine, neg_ℤ-*ℤ}
use Rattle.cs_terms.specs.declared.symbol.Sym.{Sym}
use Rattle.cs_terms.specs.declared.term.Lin.{Lin}
use Rattle.cs_terms.specs.Term.{Valuation, value_of, value_at, IsTerm, IsTermWith}
use Rattle.cs_terms.proofs.Cutting.{value_at-affine}
use Rattle.cs_constraints.specs.Constraints.{Sets, set_of, Fits, IsDeclared, IsSetOf, HasNoSet, RulesOut}
use Rattle.cs_constraints.proofs.Assuming.{value_of-symbol}
use Rattle.cs_state.specs.declared.state.State.{State}
use Rattle.cs_access.specs.Checks.{IsKnown, IsPart}
use Rattle.cs_access.specs.Numbers.{IsAscending, IsListing, AreFollowed}
use Rattle.cs_access.specs.Offsets.{IsReachedAt, offsets_of, AreSteps, HasAtMost, AreAll, AreTooMany, IsNeverAt, AreTried, IsTried, HasInside, in_order}
use Rattle.cs_access.specs.declared.reaching.ReachedOffset.{ReachedOffset}
use Rattle.cs_access.proofs.Splits.{part_same}
use Rattle.cs_access.proofs.Ascending.{first_is, later_is, nothing_is, one_of, in_reverse, from_reverse, in_map, from_map, ascending_first}
use Rattle.cs_access.proofs.Ascending.{ascending_rest, ascending_above, ascending_map, ascending_map-reverse}

product_positive : (a b : ℤ) → pos 0 <ℤ a → pos 0 <ℤ b → pos 0 <ℤ (a *ℤ b)
product_positive (pos zero) b p q = absurd (omega (arith, ints))
product_positive (pos (suc a)) (pos zero) p q = absurd (omega (arith, ints))
product_positive (pos (suc a)) (pos (suc b)) p q = omega (arith, ints)
product_positive (pos (suc a)) (negsuc b) p q = absurd (omega (arith, ints))
product_positive (negsuc a) b p q = absurd (omega (arith, ints))

affine-rises_strictly : (slope at value x y : ℤ) → pos 0 <ℤ slope → x <ℤ y → affine slope at value x <ℤ affine slope at value y
affine-rises_strictly slope at value x y positive less =
    let more = product_positive slope (y -ℤ x) positive (omega (arith, ints)) in
    omega (arith, ints, affine-affine slope at value x y)

affine-falls_strictly : (slope at value x y : ℤ) → slope <ℤ pos 0 → x <ℤ y → affine slope at value y <ℤ affine slope at value x
affine-falls_strictly slope at value x y negative less =
    let more = product_positive (neg_ℤ slope) (y -ℤ x) (omega (arith, ints)) (omega (arith, ints)) in
    omega (arith, ints, affine-affine slope at value x y, neg_ℤ-*ℤ slope (y -ℤ x))

slope_there : (symbol : Option Sym) (slope : ℤ) → IsTermWith symbol slope → symbol ≢ None → slope ≢ pos 0
slope_there None slope term there = absurd (there refl)
slope_there (Some s) slope term there = term

int_lt-true : (a b : ℤ) → a <ℤ b → int_lt a b ≡ true
int_lt-true a b less = grind (arith, ints)

int_lt-false : (a b : ℤ) → (a <ℤ b → ⊥) → int_lt a b ≡ false
int_lt-false a b not_less = grind (arith, ints)

module _ (term : Lin) (is_term : IsTerm term) (symbol : term.sym ≢ None) where
  rises : pos 0 <ℤ term.slope → (x y : ℤ) → x <ℤ y → value_at term x <ℤ value_at term y
  rises positive x y less =
      subst (λ n. n <ℤ value_at term y) (sym (value_at-affine term x is_term))
      (subst (λ n. affine term.slope term.at term.value x <ℤ n) (sym (value_at-affine term y is_term))
      (affine-rises_strictly term.slope term.at term.value x y positive less))

  falls : term.slope <ℤ pos 0 → (x y : ℤ) → x <ℤ y → value_at term y <ℤ value_at term x
  falls negative x y less =
      subst (λ n. n <ℤ value_at term x) (sym (value_at-affine term y is_term))
      (subst (λ n. affine term.slope term.at term.value y <ℤ n) (sym (value_at-affine term x is_term))
      (affine-falls_strictly term.slope term.at term.value x y negative less))

  positive_else : pos 0 ≤ℤ term.slope → pos 0 <ℤ term.slope
  positive_else least =
      by_lt_z (pos 0) term.slope
      (λ less. less)
      (λ most. absurd (slope_there term.sym term.slope is_term symbol (omega (arith, ints, least, most))))

  -- the offsets at ascending numbers ascend, if they are reversed for a falling term
  pub offsets_ascend : (numbers : List ℤ) → IsAscending numbers → IsAscending (map (value_at term) (in_order term numbers))
  offsets_ascend numbers up = by_lt_z term.slope (pos 0)
      (λ negative.
      subst (λ b. IsAscending (map (value_at term) (if b then reverse numbers else numbers))) (sym (int_lt-true term.slope (pos 0) negative))
      (ascending_map-reverse (value_at term) (falls negative) numbers up))
      (λ least.
      let not_negative : term.slope <ℤ pos 0 → ⊥ = λ less. absurd (omega (arith, ints, least, less)) in
      subst (λ b. IsAscending (map (value_at term) (if b then reverse numbers else numbers))) (sym (int_lt-false term.slope (pos 0) not_negative))
      (ascending_map (value_at term) (rises (positive_else least)) numbers up))

  pub same_number : (x y : ℤ) → value_at term x ≡ value_at term y → x ≡ y
  same_number x y same = by_lt_z term.slope (pos 0)
      (λ negative. by_lt_z x y
      (λ less. absurd (omega (arith, ints, falls negative x y less)))
      (λ least. by_lt_z y x (λ less. absurd (omega (arith, ints, falls negative y x less))) (λ most. omega (arith, ints))))
      (λ least.
      let positive = positive_else least in
      by_lt_z x y
      (λ less. absurd (omega (arith, ints, rises positive x y less)))
      (λ above. by_lt_z y x (λ less. absurd (omega (arith, ints, rises positive y x less))) (λ most. omega (arith, ints))))

pub in_order_has : (term : Lin) (numbers : List ℤ) (x : ℤ) → Contains numbers x → Contains (in_order term numbers) x
in_order_has term numbers x has = by (int_lt term.slope (pos 0))
  where
    by : (b : Bool) → Contains (if b then reverse numbers else numbers) x
    by true = in_reverse numbers x has
    by false = has

pub in_order_only : (term : Lin) (numbers : List ℤ) (x : ℤ) → Contains (in_order term numbers) x → Contains numbers x
in_order_only term numbers x has = by (int_lt term.slope (pos 0)) has
  where
    by : (b : Bool) → Contains (if b then reverse numbers else numbers) x → Contains numbers x
    by true has = from_reverse numbers x has
    by false has = has

int_eq-same : (x y : ℤ) → x ≡ y → int_eq y x ≡ true
int_eq-same x y same = grind (arith, ints)

module _ (before : State) (term : Lin) where
  never_more : (offsets : List ℤ) (steps : List ReachedOffset) (x : ℤ) → AreTried before term offsets steps → IsNeverAt before term x
      → AreTried before term (offsets ++ x ∷ []) steps
  never_more [] steps x tried never = inl (never, tried)
  never_more (y ∷ offsets) steps x (inl none) never = inl (none.0, never_more offsets steps x none.1 never)
  never_more (y ∷ offsets) steps x (inr some) never =
      inr (some.0, some.1, some.2, some.3, some.4, never_more offsets some.1 x some.5 never)

  step_more : (offsets : List ℤ) (steps : List ReachedOffset) (step : ReachedOffset) (x : ℤ) → AreTried before term offsets steps
      → step.offset ≡ x → IsReachedAt before term step → AreTried before term (offsets ++ x ∷ []) (steps ++ step ∷ [])
  step_more [] steps step x tried same is = inr (step, [], ap (λ l. l ++ step ∷ []) tried, same, is, refl)
  step_more (y ∷ offsets) steps step x (inl none) same is = inl (none.0, step_more offsets steps step x none.1 same is)
  step_more (y ∷ offsets) steps step x (inr some) same is =
      inr (some.0, some.1 ++ step ∷ [], ap (λ l. l ++ step ∷ []) some.2, some.3, some.4, step_more offsets some.1 step x some.5 same is)

  -- one more offset
  pub tried_more : (offsets : List ℤ) (steps more : List ReachedOffset) (x : ℤ) → AreTried before term offsets steps → IsTried before term x steps more
      → AreTried before term (offsets ++ x ∷ []) more
  tried_more offsets steps more x tried (inl none) =
      subst (AreTried before term (offsets ++ x ∷ [])) (sym none.1) (never_more offsets steps x tried none.0)
  tried_more offsets steps more x tried (inr some) =
      subst (AreTried before term (offsets ++ x ∷ [])) (sym some.3) (step_more offsets steps some.0 x tried some.1 some.2)

  tried_states : (offsets : List ℤ) (steps : List ReachedOffset) → AreTried before term offsets steps → All (IsReachedAt before term) steps
  tried_states [] steps tried = subst (All (IsReachedAt before term)) (sym tried) (All-nil (IsReachedAt before term))
  tried_states (x ∷ offsets) steps (inl none) = tried_states offsets steps none.1
  tried_states (x ∷ offsets) steps (inr some) =
      subst (All (IsReachedAt before term)) (sym some.2)
      (All-cons (IsReachedAt before term) some.0 some.1 some.4 (tried_states offsets some.1 some.5))

  tried_only : (offsets : List ℤ) (steps : List ReachedOffset) → AreTried before term offsets steps → (y : ℤ) → Contains (offsets_of steps) y
      → Contains offsets y
  tried_only [] steps tried y has = absurd (nothing_is y (subst (λ l. Contains (offsets_of l) y) tried has))
  tried_only (x ∷ offsets) steps (inl none) y has = later_is x offsets y (tried_only offsets steps none.1 y has)
  tried_only (x ∷ offsets) steps (inr some) y has =
      elim (one_of some.0.offset (offsets_of some.1) y (subst (λ l. Contains (offsets_of l) y) some.2 has)) [
        | inl same ↦ subst (Contains (x ∷ offsets)) (sym some.3 ∙ same) (first_is x offsets)
        | inr later ↦ later_is x offsets y (tried_only offsets some.1 some.5 y later)
      ]

  tried_ascend : (offsets : List ℤ) (steps : List ReachedOffset) → AreTried before term offsets steps → IsAscending offsets
      → IsAscending (offsets_of steps)
  tried_ascend [] steps tried up = subst (λ l. IsAscending (offsets_of l)) (sym tried) tt
  tried_ascend (x ∷ offsets) steps (inl none) up = tried_ascend offsets steps none.1 (ascending_rest x offsets up)
  tried_ascend (x ∷ offsets) steps (inr some) up =
      subst (λ l. IsAscending (offsets_of l)) (sym some.2)
      (ascending_first some.0.offset (offsets_of some.1)
      (λ y has. subst (λ n. n <ℤ y) (sym some.3) (ascending_above x offsets up y (tried_only offsets some.1 some.5 y has)))
      (tried_ascend offsets some.1 some.5 (ascending_rest x offsets up)))

  tried_has : (offsets : List ℤ) (steps : List ReachedOffset) → AreTried before term offsets steps → (v : Valuation) → Fits v before.constraints
      → Contains offsets (value_of v term) → Contains (offsets_of steps) (value_of v term)
  tried_has [] steps tried v fits has = absurd (nothing_is (value_of v term) has)
  tried_has (x ∷ offsets) steps (inl none) v fits has = elim (one_of x offsets (value_of v term) has) [
    | inl same ↦ absurd (false≢true (sym (none.0 v fits) ∙ int_eq-same x (value_of v term) same))
    | inr later ↦ tried_has offsets steps none.1 v fits later
  ]
  tried_has (x ∷ offsets) steps (inr some) v fits has =
      subst (λ l. Contains (offsets_of l) (value_of v term)) (sym some.2) (elim (one_of x offsets (value_of v term) has) [
        | inl same ↦ subst (Contains (some.0.offset ∷ offsets_of some.1)) (some.3 ∙ same) (first_is some.0.offset (offsets_of some.1))
        | inr later ↦ later_is some.0.offset (offsets_of some.1) (value_of v term) (tried_has offsets some.1 some.5 v fits later)
      ])

  are_steps : (offsets : List ℤ) (steps : List ReachedOffset) → AreTried before term offsets steps → IsAscending offsets → AreSteps before term steps
  are_steps offsets steps tried up = record {
    ascending = tried_ascend offsets steps tried up;
    states = tried_states offsets steps tried;
  }

  -- the only offset of a constant
  pub number_reached : (splits : ℕ) (steps : List ReachedOffset) → term.sym ≡ None → AreTried before term (term.value ∷ []) steps
      → AreAll before term splits steps
  number_reached splits steps none tried = record {
    few = λ set is. absurd (none-some is.sym (sym none ∙ is.symbol_is));
    each = are_steps (term.value ∷ []) steps tried tt;
    complete = λ v fits. tried_has (term.value ∷ []) steps tried v fits
        (subst (Contains (term.value ∷ [])) (sym (number v)) (first_is term.value []));
  }
    where
      number : (v : Valuation) → value_of v term ≡ term.value
      number v = simp none refl

  module _ (set : List Interval) (numbers : List ℤ) (steps : List ReachedOffset) (known : IsKnown before.constraints term)
      (is : IsSetOf before.constraints term.sym set) (up : IsAscending numbers)
      (tried : AreTried before term (map (value_at term) (in_order term numbers)) steps) where
    has_symbol : term.sym ≢ None
    has_symbol none = none-some is.sym (sym none ∙ is.symbol_is)

    steps_of : AreSteps before term steps
    steps_of = are_steps _ steps tried (offsets_ascend term known.is_term has_symbol numbers up)

    reached_has : (v : Valuation) → Fits v before.constraints → Contains numbers (v is.sym.0) → Contains (offsets_of steps) (value_of v term)
    reached_has v fits has =
        let value = value_of-symbol v term is.sym is.symbol_is in
        tried_has _ steps tried v fits
        (subst (Contains (map (value_at term) (in_order term numbers))) (sym value)
        (in_map (value_at term) (in_order term numbers) (v is.sym.0) (in_order_has term numbers (v is.sym.0) has)))

    reached_only : (v : Valuation) → Contains (offsets_of steps) (value_of v term) → Contains numbers (v is.sym.0)
    reached_only v has =
        let value = value_of-symbol v term is.sym is.symbol_is in
        let found = from_map (value_at term) (in_order term numbers) (value_of v term) (tried_only _ steps tried (value_of v term) has) in
        subst (Contains numbers) (same_number term known.is_term has_symbol found.0 (v is.sym.0) (found.2 ∙ value))
        (in_order_only term numbers found.0 found.1)

    only_set : (other : List Interval) → IsSetOf before.constraints term.sym other → set ≡ other
    only_set other also =
        let same : is.sym ≡ also.sym = same_Some is.sym also.sym (sym is.symbol_is ∙ also.symbol_is) in
        same_Some set other (sym is.set_is ∙ ap (λ (s : Sym). set_of before.constraints s.0) same ∙ also.set_is)

    -- all offsets
    pub all_reached : (splits count : ℕ) → IsCount set count → count ≤ splits → ((x : ℤ) → contains set x ≡ true → Contains numbers x)
        → AreAll before term splits steps
    all_reached splits count counts few members = record {
      few = λ other also. subst (λ s. HasAtMost s splits) (only_set other also) (record { count = count; is = counts; few = few });
      each = steps_of;
      complete = λ v fits. reached_has v fits (members (v is.sym.0) (fits is.sym.0 set is.set_is));
    }

    -- the offsets that are followed if there are too many
    pub too_many_reached : (splits size count : ℕ) → IsCount set size → splits < size → count ≡ min size (2 ^ 64 - 1) → AreFollowed set numbers
        → AreTooMany before term splits count steps
    too_many_reached splits size count counts many count_is followed = record {
      set = set;
      is = is;
      size = size;
      counts = counts;
      many = many;
      count_is = count_is;
      each = steps_of;
      followed = λ v fits. (
        λ has. (followed.members (v is.sym.0)).0 (reached_only v has),
        λ follows. reached_has v fits ((followed.members (v is.sym.0)).1 follows),
      );
    }

-- a term whose symbol is declared but has no set has no symbol
pub no_symbol : (sets : Sets) (symbol : Option Sym) → IsDeclared sets symbol → HasNoSet sets symbol → symbol ≡ None
no_symbol sets None declared none = refl
no_symbol sets (Some s) declared none = absurd (declared s refl (none s refl))

pub only_one : (x y : ℤ) → (int_le x y && int_le y x) ≡ int_eq y x
only_one x y = grind (arith, ints)

-- the part of the state with only this value
pub reached_at : (before : State) (term : Lin) (only : List Interval) (step : ReachedOffset)
    → ((x : ℤ) → contains only x ≡ (int_le step.offset x && int_le x step.offset)) → IsPart before (λ v. contains only (value_of v term)) step.state
    → IsReachedAt before term step
reached_at before term only step numbers is =
    part_same before (λ v. contains only (value_of v term)) (λ v. int_eq (value_of v term) step.offset) step.state
    (λ v fits. numbers (value_of v term) ∙ only_one step.offset (value_of v term)) is

pub never_reached : (before : State) (term : Lin) (only : List Interval) (offset : ℤ)
    → ((x : ℤ) → contains only x ≡ (int_le offset x && int_le x offset)) → RulesOut before.constraints term only → IsNeverAt before term offset
never_reached before term only offset numbers out v fits =
    sym (only_one offset (value_of v term)) ∙ sym (numbers (value_of v term)) ∙ out v fits

module _ (before : State) (term : Lin) (set : List Interval) (numbers : List ℤ) (known : IsKnown before.constraints term)
    (is : IsSetOf before.constraints term.sym set) where
  pub listed_inside : IsListing set numbers → HasInside term numbers
  listed_inside listing x has = known.values is.sym set is.symbol_is is.set_is x ((listing.members x).1 has)

  pub followed_inside : AreFollowed set numbers → HasInside term numbers
  followed_inside followed x has = known.values is.sym set is.symbol_is is.set_is x (elim ((followed.members x).0 has) [
    | inl least ↦ least.member
    | inr rest ↦ elim rest [
      | inl nearest ↦ nearest.member
      | inr greatest ↦ greatest.member
    ]
  ])

-- one more number
pub tried_next : (before : State) (term : Lin) (items : List ℤ) (place : ℕ) (d : ℤ) (steps more : List ReachedOffset) → place < length items
    → AreTried before term (map (value_at term) (take place items)) steps → IsTried before term (value_at term (get_or items place d)) steps more
    → AreTried before term (map (value_at term) (take (place + 1) items)) more
tried_next before term items place d steps more within so_far tried =
    subst (λ offsets. AreTried before term offsets more)
    (sym (ap (map (value_at term)) (take_more items place d within)
    ∙ map-append (value_at term) (take place items) (get_or items place d ∷ [])))
    (tried_more before term (map (value_at term) (take place items)) steps more (value_at term (get_or items place d)) so_far tried)
