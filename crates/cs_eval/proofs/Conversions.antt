-- The pieces of an exact result that is converted to a type: for the contracts of conversions, of operators of one integer, and of sums.
use Rattle.std.proofs.Common.{◌≡◌, ◌≢◌, inl, inr, ℕ, ◌-◌, ◌<◌, ℤ, pos, negsuc, ◌+ℤ◌, ◌-ℤ◌, ◌*ℤ◌, List}
use Rattle.std.proofs.Common.{Option, Some, None}
use Rattle.std.proofs.Common.{refl, sym, ap, subst, ◌∙◌, arith}
use Rattle.std.specs.Prelude.{neg_ℤ, ◌≤ℤ◌}
use Rattle.std.proofs.lemmas.Int.{ints}
use Rattle.cs_ranges.specs.declared.range_set.Interval.{Interval}
use Rattle.cs_types.specs.declared.data_model.DataModel.{DataModel}
use Rattle.cs_types.specs.declared.int_type.IntType.{IntType}
use Rattle.cs_types.specs.IntType.{InRange, modulus_of, negatives_of, least_of, greatest_of}
use Rattle.cs_types.specs.Wrap.{wrap_quotient, wrapped}
use Rattle.cs_types.proofs.Wrapping.{negatives-below, wrapped-InRange}
use Rattle.cs_ast.specs.declared.typed.operator.UnOp.{UnOp}
use Rattle.cs_ast.specs.declared.typed.operator.UnOp.TheVariants.{Negate, Complement}
use Rattle.cs_terms.specs.declared.symbol.Sym.{Sym}
use Rattle.cs_terms.specs.declared.term.Lin.{Lin}
use Rattle.cs_terms.specs.Pieces.{IsFar}
use Rattle.cs_terms.specs.Term.{Valuation, value_of, value_at, HasNoOtherSymbol}
use Rattle.cs_terms.proofs.TypeRanges.{quotient_ends}
use Rattle.cs_constraints.specs.Constraints.{Sets, set_of, Fits}
use Rattle.cs_constraints.proofs.Assuming.{value_of-symbol}
use Rattle.cs_events.specs.declared.event.Wrap.TheVariants.{Same}
use Rattle.cs_events.specs.Operations.{own_quotient, own_result, wrap_of}
use Rattle.cs_state.specs.declared.asked.Asks.TheVariants as asks
use Rattle.cs_eval.specs.declared.guesses.Inexact.{Inexact}
use Rattle.cs_eval.specs.declared.piece.Piece.{Piece}
use Rattle.cs_eval.specs.declared.question.Question.TheVariants as question
use Rattle.cs_eval.specs.Followed.{asking_of, AreAnswers}
use Rattle.cs_eval.specs.Guesses.{AreOfType}
use Rattle.cs_eval.specs.Operands.{IsBetween, IsFixed, IsRaised, IsSeveral, IsReadyOperand}
use Rattle.cs_eval.specs.Parts.{number_term}
use Rattle.cs_eval.specs.Recorded.{AreRecordedAnswers}
use Rattle.cs_eval.specs.Splits.{Asking, IsSplit}
use Rattle.cs_eval.specs.Wraps.{IsNearOrUnasked, AreConverted, IsExactOfOne}
use Rattle.cs_eval.proofs.OperandValues.{value_of-none}
use Rattle.cs_eval.proofs.PartPieces.{raised_value, times_one}
use Rattle.cs_eval.proofs.Records.{conversion_is, converted_records, recorded}
use Rattle.cs_eval.proofs.WrapPieces.{IsWrap, AreGuesses, IsFarGuessed, IsAskedFor, one_split, whole_split, product_split}

-- an operation whose exact result is a term's value
pub record IsConverting (model : DataModel) (before : Sets) (asking : Asking) (ty : IntType) (exact : Lin) (asked : Option Inexact) : Type 0 where
  pub wrap : IsWrap model asking
  pub quotient : (v : Valuation) → own_quotient model (asking.operation v) ≡ wrap_quotient model ty (value_of v exact)
  pub own : (v : Valuation) → own_result model (asking.operation v) ≡ wrapped model ty (value_of v exact)
  pub near : (v : Valuation) → ¬ IsFar (own_quotient model (asking.operation v)) → asking.IsFollowed v
  pub mentioned : (s : Sym) → exact.sym ≡ Some s → asking.Mentions s
  pub asked_for : IsAskedFor model before asking asked
  pub unasked : asked ≡ None → (v : Valuation) → asking.IsFollowed v

-- a number of the type has wrap quotient 0, and its conversion is the number itself
greatest_is : (m b : ℕ) → b < m → pos (m - b - 1) ≡ ((pos 0 -ℤ pos b) +ℤ pos m) -ℤ pos 1
greatest_is m b h = omega (arith, ints)

no_turns : (low m : ℤ) → low ≡ low +ℤ pos 0 *ℤ m
no_turns low m = omega (arith, ints)

less_none : (n m q : ℤ) → q ≡ pos 0 → n ≡ n -ℤ q *ℤ m
less_none n m q e = rw e (omega (arith, ints))

pub in_type_quotient : (model : DataModel) (ty : IntType) (n : ℤ) → InRange model ty n → wrap_quotient model ty n ≡ pos 0
in_type_quotient model ty n h =
    (quotient_ends model ty (pos 0) n (least_of model ty) (greatest_of model ty) (no_turns (least_of model ty) (pos (modulus_of model ty)))
    (greatest_is (modulus_of model ty) (negatives_of model ty) (negatives-below model ty))).0 (h.from_least, h.to_greatest)

pub in_type_wrapped : (model : DataModel) (ty : IntType) (n : ℤ) → InRange model ty n → n ≡ wrapped model ty n
in_type_wrapped model ty n h = less_none n (pos (modulus_of model ty)) (wrap_quotient model ty n) (in_type_quotient model ty n h)

zero_near : ¬ IsFar (pos 0)
zero_near far = far.1 refl

module _ (model : DataModel) (before : Sets) (guess : ℕ) (asking : Asking) (ty : IntType) (exact : Lin) (asked : Option Inexact)
    (given : IsConverting model before asking ty exact asked) (fresh : set_of before guess ≡ None) where
  constant_followed : (n : ℤ) → ((v : Valuation) → own_quotient model (asking.operation v) ≡ wrap_quotient model ty n)
      → IsNearOrUnasked (wrap_quotient model ty n) asked → (v : Valuation) → asking.IsFollowed v
  constant_followed n same near v = by asked refl near
    where
      by : (o : Option Inexact) → asked ≡ o → IsNearOrUnasked (wrap_quotient model ty n) o → asking.IsFollowed v
      by None e h = given.unasked e v
      by (Some inexact) e h = given.near v (λ far. h (subst (λ (k : ℤ). IsFar k) (same v) far))

  pub converted_split : (pieces : List Piece) → AreConverted model before guess ty exact asked pieces → IsSplit model before guess asking pieces
  converted_split pieces (inl (none, inl h)) =
      let same : (v : Valuation) → own_quotient model (asking.operation v) ≡ wrap_quotient model ty exact.value =
      λ v. given.quotient v ∙ ap (wrap_quotient model ty) (value_of-none v exact none) in
      one_split model before guess asking given.wrap (wrap_of (wrap_quotient model ty exact.value)) (number_term (wrapped model ty exact.value)) pieces
      h.made h.inhabited (λ v fits. constant_followed exact.value same h.near v) (λ v fits. ap wrap_of (same v))
      (λ v fits. ap (wrapped model ty) (sym (value_of-none v exact none)) ∙ sym (given.own v))
  converted_split pieces (inl (none, inr h)) =
      let a : IsFarGuessed model before asking h.inexact =
      subst (λ (o : Option Inexact). IsAskedFor model before asking o) h.asked_for given.asked_for in
      whole_split model before guess asking given.wrap h.inexact pieces fresh
      (λ v fits.
      a.far v fits
      (subst (λ (n : ℤ). IsFar n) (ap (wrap_quotient model ty) (sym (value_of-none v exact none)) ∙ sym (given.quotient v)) h.far))
      a.guesses h.whole
  converted_split pieces (inr (inl h)) =
      let at : (v : Valuation) → value_of v exact ≡ value_at exact (v h.sym.0) = λ v. value_of-symbol v exact h.sym h.over in
      let inside : (v : Valuation) → Fits v before → InRange model ty (value_of v exact) =
      λ v fits. subst (λ (n : ℤ). InRange model ty n) (sym (at v)) (h.within (v h.sym.0) (fits h.sym.0 h.range h.known)) in
      let quotient : (v : Valuation) → Fits v before → own_quotient model (asking.operation v) ≡ pos 0 =
      λ v fits. given.quotient v ∙ in_type_quotient model ty (value_of v exact) (inside v fits) in
      one_split model before guess asking given.wrap Same exact pieces h.made h.inhabited
      (λ v fits. given.near v (λ far. zero_near (subst (λ (n : ℤ). IsFar n) (quotient v fits) far)))
      (λ v fits. ap wrap_of (quotient v fits))
      (λ v fits. in_type_wrapped model ty (value_of v exact) (inside v fits) ∙ sym (given.own v))
  converted_split pieces (inr (inr h)) =
      product_split model before guess asking ty exact (pos 1) asked pieces fresh
      (λ s range over known.
      let at : (v : Valuation) → value_of v exact ≡ value_at exact (v s.0) *ℤ pos 1 =
      λ v. value_of-symbol v exact s over ∙ sym (times_one (value_at exact (v s.0))) in
      record {
        wrap = given.wrap;
        known = known;
        over = over;
        quotient = λ v fits. given.quotient v ∙ ap (wrap_quotient model ty) (at v);
        own = λ v fits. given.own v ∙ ap (wrapped model ty) (at v);
        near = λ v fits. given.near v;
        mentioned = given.mentioned s over;
      })
      given.asked_for h

-- the numbers of a type
pub between_type : (model : DataModel) (ty : IntType) (numbers : Interval) (n : ℤ) → AreOfType model ty numbers
    → IsBetween numbers.low numbers.high n → InRange model ty n
between_type model ty numbers n h b = record {
  from_least = subst (λ (k : ℤ). k ≤ℤ n) h.low b.0;
  to_greatest = subst (λ (k : ℤ). n ≤ℤ k) h.high b.1;
}

pub type_between : (model : DataModel) (ty : IntType) (numbers : Interval) (n : ℤ) → AreOfType model ty numbers → InRange model ty n
    → IsBetween numbers.low numbers.high n
type_between model ty numbers n h r = (subst (λ (k : ℤ). k ≤ℤ n) (sym h.low) r.from_least, subst (λ (k : ℤ). n ≤ℤ k) (sym h.high) r.to_greatest)

-- an operation that may be guessed as any number of the type, which has its own result
pub type_guesses : (model : DataModel) (before : Sets) (asking : Asking) (ty : IntType)
    → ((v : Valuation) (n : ℤ) → InRange model ty n → asking.IsGuess v n) → ((v : Valuation) (n : ℤ) → asking.IsGuess v n → InRange model ty n)
    → ((v : Valuation) → InRange model ty (own_result model (asking.operation v))) → (numbers : Interval) → AreOfType model ty numbers
    → AreGuesses model before asking numbers
type_guesses model before asking ty to from own numbers h = record {
  to = λ v n fits b. to v n (between_type model ty numbers n h b);
  from = λ v n fits g. type_between model ty numbers n h (from v n g);
  own = λ v fits unfollowed. type_between model ty numbers (own_result model (asking.operation v)) h (own v);
}

-- a prepared operand that is fixed has no symbol
pub no_symbol : (sets : Sets) (term : Lin) → IsSeveral sets term → IsFixed sets term → term.sym ≡ None
no_symbol sets term several (inl none) = none
no_symbol sets term several (inr one) = absurd (several one.0 one.1)

pub conversion_split : (model : DataModel) (sets : Sets) (guess : ℕ) (ty : IntType) (term zero : Lin) (pieces : List Piece) → IsReadyOperand sets term
    → term.sym ≢ None → zero.sym ≡ None → set_of sets guess ≡ None
    → AreConverted model sets guess ty term (Some (record { asks = asks.Convert ty; left = term; right = zero; fact = None })) pieces
    → AreRecordedAnswers model sets guess (question.Convert ty term) pieces
conversion_split model sets guess ty term zero pieces ready symbol constant fresh h =
    let inexact : Inexact = record { asks = asks.Convert ty; left = term; right = zero; fact = None } in
    let asking : Asking = asking_of model sets (question.Convert ty term) in
    recorded model sets (question.Convert ty term) inexact (asks.Convert ty) term zero None refl (conversion_is model sets term zero ty constant) guess
    pieces
    (converted_split model sets guess asking ty term (Some inexact)
    (record {
      wrap = record { shown = λ v. refl; shown_guess = λ v number. refl };
      quotient = λ v. refl;
      own = λ v. refl;
      near = λ v near. inr near;
      mentioned = λ s e. e;
      asked_for = record {
        far = λ v fits far followed. elim followed [
          | inl fixed ↦ symbol (no_symbol sets term ready.several fixed)
          | inr near ↦ near far
        ];
        guesses = λ numbers are.
            type_guesses model sets asking ty (λ v n r. r) (λ v n r. r) (λ v. wrapped-InRange model ty (value_of v term)) numbers are.are;
      };
      unasked = λ e. absurd (cc);
    })
    fresh pieces h)
    (converted_records model sets guess inexact ty term pieces h)

-- an operator of one integer
pub unary_split : (model : DataModel) (sets : Sets) (guess : ℕ) (op : UnOp) (ty : IntType) (term exact : Lin) (pieces : List Piece)
    → set_of sets guess ≡ None → IsExactOfOne op term exact → AreConverted model sets guess ty exact None pieces
    → AreAnswers model sets guess (question.Unary op ty term) pieces
unary_split model sets guess op ty term exact pieces fresh of_one h =
    converted_split model sets guess (asking_of model sets (question.Unary op ty term)) ty exact None
    (record {
      wrap = record { shown = λ v. refl; shown_guess = λ v number. refl };
      quotient = λ v. ap (wrap_quotient model ty) (sym (of_one.value v));
      own = λ v. ap (wrapped model ty) (sym (of_one.value v));
      near = λ v near. tt;
      mentioned = of_one.symbol;
      asked_for = tt;
      unasked = λ e v. tt;
    })
    fresh pieces h

negated : (n : ℤ) → n *ℤ negsuc 0 ≡ neg_ℤ n
negated n = omega (arith, ints)

turned : (n : ℤ) → n *ℤ negsuc 0 +ℤ negsuc 0 ≡ negsuc 0 -ℤ n
turned n = omega (arith, ints)

pub negative_of : (term negative : Lin) → ((v : Valuation) → value_of v negative ≡ value_of v term *ℤ negsuc 0)
    → HasNoOtherSymbol negative.sym term.sym → IsExactOfOne Negate term negative
negative_of term negative value symbol = record { value = λ v. value v ∙ negated (value_of v term); symbol = symbol }

pub complement_of : (term negative exact : Lin) → ((v : Valuation) → value_of v negative ≡ value_of v term *ℤ negsuc 0)
    → HasNoOtherSymbol negative.sym term.sym → IsRaised negative (negsuc 0) exact → IsExactOfOne Complement term exact
complement_of term negative exact value symbol raised = record {
  value = λ v. raised_value v negative (negsuc 0) exact raised ∙ ap (λ (n : ℤ). n +ℤ negsuc 0) (value v) ∙ turned (value_of v term);
  symbol = λ s e. symbol s (sym raised.symbol ∙ e);
}
