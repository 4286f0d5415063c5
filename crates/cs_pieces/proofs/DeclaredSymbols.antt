-- Symbols stay declared if some valuations remain, and states with pointers to locals only mention no others: for the contract of `find`.
use Rattle.std.proofs.Common.{◌≡◌, ℕ, ◌+◌, ℤ, pos, negsuc, ◌≤ℤ◌, ◌<ℤ◌, Bool, true, false, true≢false, List, [], ◌∷◌}
use Rattle.std.proofs.Common.{◌||◌, Option, None, Some, All, inl, inr, refl, sym, ap, ◌∙◌, subst, arith}
use Rattle.std.specs.Prelude.{is_some, unsigned_abs, int_le, ◌&&◌}
use Rattle.std.proofs.lemmas.Int.{ints}
use Rattle.std.proofs.lemmas.List.Elements.{All-weaker}
use Rattle.cs_ast.specs.TypedProgram.{TypedProgram}
use Rattle.cs_ranges.specs.declared.range_set.Interval.{Interval}
use Rattle.cs_ranges.specs.Interval.{in_interval}
use Rattle.cs_ranges.specs.RangeSet.{contains}
use Rattle.cs_terms.specs.declared.term.Lin.{Lin}
use Rattle.cs_terms.specs.Term.{Valuation}
use Rattle.cs_constraints.specs.Constraints.{Sets, set_of, Fits, IsDeclared}
use Rattle.cs_eval.specs.Parts.{with_number}
use Rattle.cs_eval.proofs.OperandValues.{decide, with_number-same, with_number-other}
use Rattle.cs_regions.specs.declared.base.Base.{Base}
use Rattle.cs_store.specs.declared.value.Value.{Value}
use Rattle.cs_store.specs.declared.value.Value.TheVariants as value
use Rattle.cs_state.specs.declared.state.State.{State}
use Rattle.cs_state.specs.declared.temporary.Temporary.{Temporary}
use Rattle.cs_state.specs.declared.temporary.Temporary.TheVariants as temporary
use Rattle.cs_cfg.specs.IntegerCode.{count_of_locals}
use Rattle.cs_progress.specs.Locals.{IsOver, PointsToLocal, PointToLocals, HasLocalsAlone, AreIn}
use Rattle.cs_successors.specs.Coming.{is_declared}

-- no set has all numbers, as none is above this bound
at_most_abs : (number : ℤ) → number ≤ℤ pos (unsigned_abs number)
at_most_abs (pos n) = omega (arith, ints)
at_most_abs (negsuc n) = omega (arith, ints)

above : (one : Interval) (bound : ℕ) (x : ℤ) → pos (unsigned_abs one.high + bound) <ℤ x → in_interval one x ≡ false
unfolding in_interval
above one bound x high = by (int_le one.low x)
  where
    past : int_le x one.high ≡ false
    past = let least = at_most_abs one.high in grind (arith, ints)

    by : (b : Bool) → (b && int_le x one.high) ≡ false
    by true = past
    by false = refl

bounded : (set : List Interval) → (bound : ℕ) × ((x : ℤ) → pos bound <ℤ x → contains set x ≡ false)
unfolding contains
bounded [] = (0, λ x high. refl)
bounded (one ∷ set) =
    let rest = bounded set in (
      unsigned_abs one.high + rest.0,
      λ x high.
          ap (λ (b : Bool). b || contains set x) (above one rest.0 x high) ∙ rest.1 x (omega (arith, ints)),
    )

-- a symbol that can't be undeclared is declared
declared_or_none : (found : Option (List Interval)) → (is_some found ≡ false → ⊥) → is_some found ≡ true
declared_or_none None some = absurd (some refl)
declared_or_none (Some set) some = refl

module _ (before after : Sets) (some : (v : Valuation) × Fits v after) (fits : (v : Valuation) → Fits v after → Fits v before) where
  other_number : (symbol : ℕ) (number : ℤ) → set_of after symbol ≡ None → Fits (with_number symbol number some.0) after
  other_number symbol number none other set there = elim (decide other symbol) [
    | inl same ↦ let wrong : None ≡ Some set = sym none ∙ ap (set_of after) (sym same) ∙ there in cc
    | inr differ ↦ ap (contains set) (with_number-other symbol number some.0 other differ) ∙ some.1 other set there
  ]

  -- a symbol that was declared remains declared
  pub stays_declared : (symbol : ℕ) → is_declared before symbol ≡ true → is_declared after symbol ≡ true
  stays_declared symbol declared = by (set_of before symbol) refl (set_of after symbol) refl
    where
      by : (found : Option (List Interval)) → set_of before symbol ≡ found → (left : Option (List Interval)) → set_of after symbol ≡ left
          → is_declared after symbol ≡ true
      by found there (Some set) is = ap is_some is
      by None there None is = let wrong : is_some (set_of before symbol) ≡ false = ap is_some there in cc
      by (Some set) there None is =
          let bound = bounded set in
          let number : ℤ = pos (bound.0 + 1) in
          let outside = bound.1 number (omega (arith, ints)) in
          let inside = fits (with_number symbol number some.0) (other_number symbol number is) symbol set there in
          let same = with_number-same symbol number some.0 symbol refl in
          absurd (true≢false (sym inside ∙ ap (contains set) same ∙ outside))

-- the symbol of a declared term is declared
pub over_declared : (sets : Sets) (term : Lin) → IsDeclared sets term.sym → IsOver (is_declared sets) term
over_declared sets term declared symbol is = by (set_of sets symbol.0) refl
  where
    by : (found : Option (List Interval)) → set_of sets symbol.0 ≡ found → is_declared sets symbol.0 ≡ true
    by None none = absurd (declared symbol is none)
    by (Some set) there = ap is_some there

module _ (known other : ℕ → Bool) (more : (symbol : ℕ) → known symbol ≡ true → other symbol ≡ true) where
  over_more : (term : Lin) → IsOver known term → IsOver other term
  over_more term over symbol is = more symbol.0 (over symbol is)

  points_more : (bases : List Base) (frame count : ℕ) (given : Value) → PointsToLocal bases known frame count given
      → PointsToLocal bases other frame count given
  points_more bases frame count (value.Number term) points = over_more term points
  points_more bases frame count value.Null points = tt
  points_more bases frame count (value.At base offset) points = (points.0, over_more offset points.1)
  points_more bases frame count (value.Start base offset) points = absurd points
  points_more bases frame count value.Unset points = tt

  all_more : (bases : List Base) (frame count : ℕ) (given : Temporary) → PointToLocals bases known frame count given
      → PointToLocals bases other frame count given
  all_more bases frame count (temporary.Scalar given) points = points_more bases frame count given points
  all_more bases frame count (temporary.Whole given) points = absurd points
  all_more bases frame count temporary.Nothing points = tt

  -- a state whose pointers only point to locals remains one if more symbols are known, answers are added, and constraints, guesses and counters change
  pub locals_more : (program : TypedProgram) (bases : List Base) (before after : State) (answers : List Lin) → HasLocalsAlone program bases known before
      → after ≡ record before {
        constraints = after.constraints;
        answers = answers;
        counters = after.counters;
        asked = after.asked;
        phase = after.phase;
      }
      → All (IsOver other) answers → HasLocalsAlone program bases other after
  locals_more program bases before after answers have is over = subst (HasLocalsAlone program bases other) (sym is) (record {
    callers = have.callers;
    answers = over;
    temporaries =
        All-weaker (AreIn program bases known before.frame) (AreIn program bases other before.frame)
        (all_more bases before.frame.number (count_of_locals program before.frame.spot.function)) before.frame.temporaries have.temporaries;
    stored = λ base offset given held.
        points_more bases before.frame.number (count_of_locals program before.frame.spot.function) given (have.stored base offset given held);
    filled = have.filled;
    result = λ given is. points_more bases before.frame.number (count_of_locals program before.frame.spot.function) given (have.result given is);
    read = λ base offset symbol is. more symbol.0 (have.read base offset symbol is);
  })

  pub answers_more : (answers : List Lin) → All (IsOver known) answers → All (IsOver other) answers
  answers_more answers over = All-weaker (IsOver known) (IsOver other) over_more answers over
