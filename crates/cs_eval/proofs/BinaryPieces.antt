-- The pieces of operators of two integers: for the contract of `binary`.
use Rattle.std.proofs.Common.{◌≡◌, ◌⊎◌, inl, inr, ℕ, ℤ, pos, ◌*ℤ◌, List, Option, Some, None, refl, sym, ap}
use Rattle.std.proofs.Common.{◌∙◌, Vec, Global, Result, IfOk}
use Rattle.std.proofs.lemmas.Result.{IfOk-weaker}
use Rattle.std.proofs.Math.IntN.{*ℤ_comm}
use Rattle.std.proofs.lemmas.Option.{none-some, same_Some}
use Rattle.cs_ranges.specs.declared.range_set.Interval.{Interval}
use Rattle.cs_types.specs.declared.data_model.DataModel.{DataModel}
use Rattle.cs_types.specs.declared.int_type.IntType.{IntType}
use Rattle.cs_types.specs.IntType.{InRange}
use Rattle.cs_types.specs.Wrap.{wrap_quotient, wrapped}
use Rattle.cs_types.proofs.Wrapping.{wrapped-InRange}
use Rattle.cs_ast.specs.declared.typed.operator.BinOp.{BinOp}
use Rattle.cs_ast.specs.declared.typed.operator.BinOp.TheVariants.{Add, Sub, Mul, Div, Shl, Shr, Xor, Or}
use Rattle.cs_terms.specs.declared.symbol.Sym.{Sym}
use Rattle.cs_terms.specs.declared.term.Lin.{Lin}
use Rattle.cs_terms.specs.Term.{Valuation, value_of, value_at}
use Rattle.cs_constraints.specs.Constraints.{Sets, set_of}
use Rattle.cs_constraints.proofs.Assuming.{value_of-symbol}
use Rattle.cs_events.specs.Operations.{exact, power}
use Rattle.cs_state.specs.declared.asked.Asks.TheVariants as asks
use Rattle.cs_eval.specs.declared.piece.Piece.{Piece}
use Rattle.cs_eval.specs.declared.question.Question.TheVariants as question
use Rattle.cs_eval.specs.Followed.{asking_of, AreFixed, IsFollowedNear}
use Rattle.cs_eval.specs.Guesses.{HasNumbers}
use Rattle.cs_eval.specs.Operands.{AreOverOne, HaveSymbol, IsFixed, IsReadyOperand, constant_with, constant_of}
use Rattle.cs_eval.specs.Ready.{IsBinary}
use Rattle.cs_eval.specs.Recorded.{RecordsInexact, AreRecordedAnswers}
use Rattle.cs_eval.specs.Splits.{Asking, Each, IsSplit}
use Rattle.cs_eval.specs.Wraps.{asked_of, IsWholeGuess, AreOfProduct, AreSummed, IsSumOf}
use Rattle.cs_eval.proofs.Comparisons.{over_one, not_over_one}
use Rattle.cs_eval.proofs.OperandValues.{value_of-none}
use Rattle.cs_eval.proofs.Conversions.{converted_split, no_symbol, type_guesses}
use Rattle.cs_eval.proofs.Records.{binary_is, recorded, whole_records, product_records, converted_records}
use Rattle.cs_eval.proofs.WrapPieces.{IsWrap, AreGuesses, IsFarGuessed, whole_split, product_split}

abbrev pub binary_asking : DataModel → Sets → BinOp → IntType → Lin → Lin → Asking
binary_asking model sets op ty left right = asking_of model sets (question.Binary op ty left right)

-- the numbers that may be guessed for an operator
abbrev pub HasGuesses : DataModel → Sets → BinOp → IntType → Lin → Lin → Type 0
HasGuesses model sets op ty left right =
    (numbers : Interval) → HasNumbers model (asked_of op ty left right) numbers → AreGuesses model sets (binary_asking model sets op ty left right) numbers

pub binary_given : (sets : Sets) (guess : ℕ) (left right : Lin) → IsReadyOperand sets left → IsReadyOperand sets right → HaveSymbol left right
    → set_of sets guess ≡ None → IsBinary sets guess left right
binary_given sets guess left right l r symbol fresh = record { left_ready = l; right_ready = r; symbol = symbol; fresh = fresh }

pub not_both : (sets : Sets) (guess : ℕ) (left right : Lin) → IsBinary sets guess left right → ¬ AreFixed sets left right
not_both sets guess left right given both =
    given.symbol (no_symbol sets left given.left_ready.several both.0, no_symbol sets right given.right_ready.several both.1)

module _ (model : DataModel) (sets : Sets) (guess : ℕ) (op : BinOp) (ty : IntType) (left right : Lin) (given : IsBinary sets guess left right)
    (guesses : HasGuesses model sets op ty left right) where
  abbrev asking : Asking
  asking = binary_asking model sets op ty left right

  wrap : IsWrap model asking
  wrap = record { shown = λ v. refl; shown_guess = λ v number. refl }

  with_records : (pieces : List Piece) → IsSplit model sets guess asking pieces → Each (RecordsInexact sets (asked_of op ty left right)) pieces
      → AreRecordedAnswers model sets guess (question.Binary op ty left right) pieces
  with_records =
      recorded model sets (question.Binary op ty left right) (asked_of op ty left right) (asks.Binary op ty) left right None refl
      (binary_is model sets left right op ty) guess

  pub guessed_split : ¬ IsFollowedNear sets op left right → (pieces : List Piece) → IsWholeGuess model sets guess (asked_of op ty left right) pieces
      → AreRecordedAnswers model sets guess (question.Binary op ty left right) pieces
  guessed_split not pieces h =
      with_records pieces
      (whole_split model sets guess asking wrap (asked_of op ty left right) pieces given.fresh
      (λ v fits followed. elim followed [ inl both ↦ not_both sets guess left right given both | inr near ↦ not near.0 ])
      guesses h)
      (whole_records model sets guess (asked_of op ty left right) pieces h)

  -- the same for the result of a call
  pub guessed_answers : {E : Type 0} → ¬ IsFollowedNear sets op left right → (result : Result (Vec Piece Global) E)
      → IfOk result (λ pieces. IsWholeGuess model sets guess (asked_of op ty left right) pieces.items)
      → IfOk result (λ pieces. AreRecordedAnswers model sets guess (question.Binary op ty left right) pieces.items)
  guessed_answers not result made = IfOk-weaker {X = Vec Piece Global} result _ _ (λ pieces. guessed_split not pieces.items) made

  far_guessed : IsFarGuessed model sets asking (asked_of op ty left right)
  far_guessed = record {
    far = λ v fits far followed. elim followed [ inl both ↦ not_both sets guess left right given both | inr near ↦ near.1 far ];
    guesses = guesses;
  }

  -- an operator that is followed if its operands are over one symbol
  pub summed_split : (number : Valuation → ℤ) → ((v : Valuation) → exact model op ty (value_of v left) (value_of v right) ≡ number v)
      → (AreOverOne sets left right → IsFollowedNear sets op left right) → (IsFollowedNear sets op left right → AreOverOne sets left right)
      → (sum : Option Lin) (pieces : List Piece) → IsSumOf left right number sum → AreSummed model sets guess ty sum (asked_of op ty left right) pieces
      → AreRecordedAnswers model sets guess (question.Binary op ty left right) pieces
  summed_split number same to from None pieces s h =
      guessed_split
      (λ near. not_over_one sets left right right.sym refl given.left_ready.several given.right_ready.several (s.none refl) (from near)) pieces h
  summed_split number same to from (Some sum) pieces s h =
      with_records pieces
      (converted_split model sets guess asking ty sum (Some (asked_of op ty left right))
      (record {
        wrap = wrap;
        quotient = λ v. ap (wrap_quotient model ty) (same v ∙ sym (s.value sum v refl));
        own = λ v. ap (wrapped model ty) (same v ∙ sym (s.value sum v refl));
        near = λ v near. inr (to (over_one sets left right right.sym refl (s.one sum refl)), near);
        mentioned = λ t e. s.symbol sum t refl e;
        asked_for = far_guessed;
        unasked = λ e. absurd (cc);
      })
      given.fresh pieces h)
      (converted_records model sets guess (asked_of op ty left right) ty sum pieces h)

  -- an operator that is a product of a term and a constant
  pub multiplied_split : (term : Lin) (factor : ℤ)
      → ((v : Valuation) → exact model op ty (value_of v left) (value_of v right) ≡ value_of v term *ℤ factor)
      → IsFollowedNear sets op left right → ((s : Sym) → term.sym ≡ Some s → (left.sym ≡ Some s) ⊎ (right.sym ≡ Some s))
      → (pieces : List Piece)
      → AreOfProduct model sets guess ty term factor (Some (asked_of op ty left right)) pieces
      → AreRecordedAnswers model sets guess (question.Binary op ty left right) pieces
  multiplied_split term factor same followed mentioned pieces h =
      with_records pieces
      (product_split model sets guess asking ty term factor (Some (asked_of op ty left right)) pieces given.fresh
      (λ s range over known.
      let at : (v : Valuation) → exact model op ty (value_of v left) (value_of v right) ≡ value_at term (v s.0) *ℤ factor =
      λ v. same v ∙ ap (λ (n : ℤ). n *ℤ factor) (value_of-symbol v term s over) in
      record {
        wrap = wrap;
        known = known;
        over = over;
        quotient = λ v fits. ap (wrap_quotient model ty) (at v);
        own = λ v fits. ap (wrapped model ty) (at v);
        near = λ v fits near. inr (followed, near);
        mentioned = mentioned s over;
      })
      far_guessed h)
      (product_records model sets guess (asked_of op ty left right) ty term factor pieces h)

module _ (model : DataModel) (sets : Sets) (ty : IntType) (left right : Lin) where
  own_in_type : (op : BinOp) (v : Valuation) → InRange model ty (wrapped model ty (exact model op ty (value_of v left) (value_of v right)))
  own_in_type op v = wrapped-InRange model ty (exact model op ty (value_of v left) (value_of v right))

  pub add_guesses : HasGuesses model sets Add ty left right
  add_guesses numbers h =
      type_guesses model sets (binary_asking model sets Add ty left right) ty (λ v n r. r) (λ v n r. r) (own_in_type Add) numbers h.are

  pub sub_guesses : HasGuesses model sets Sub ty left right
  sub_guesses numbers h =
      type_guesses model sets (binary_asking model sets Sub ty left right) ty (λ v n r. r) (λ v n r. r) (own_in_type Sub) numbers h.are

  pub mul_guesses : HasGuesses model sets Mul ty left right
  mul_guesses numbers h =
      type_guesses model sets (binary_asking model sets Mul ty left right) ty (λ v n r. r) (λ v n r. r) (own_in_type Mul) numbers h.are

  pub div_guesses : HasGuesses model sets Div ty left right
  div_guesses numbers h =
      type_guesses model sets (binary_asking model sets Div ty left right) ty (λ v n r. r) (λ v n r. r) (own_in_type Div) numbers h.are

  pub shl_guesses : HasGuesses model sets Shl ty left right
  shl_guesses numbers h =
      type_guesses model sets (binary_asking model sets Shl ty left right) ty (λ v n r. r) (λ v n r. r) (own_in_type Shl) numbers h.are

  pub shr_guesses : HasGuesses model sets Shr ty left right
  shr_guesses numbers h =
      type_guesses model sets (binary_asking model sets Shr ty left right) ty (λ v n r. r) (λ v n r. r) (own_in_type Shr) numbers h.are

  pub xor_guesses : HasGuesses model sets Xor ty left right
  xor_guesses numbers h =
      type_guesses model sets (binary_asking model sets Xor ty left right) ty (λ v n r. r) (λ v n r. r) (own_in_type Xor) numbers h.are

  pub or_guesses : HasGuesses model sets Or ty left right
  or_guesses numbers h =
      type_guesses model sets (binary_asking model sets Or ty left right) ty (λ v n r. r) (λ v n r. r) (own_in_type Or) numbers h.are

-- a term is a constant, or it has a symbol
pub constant_is : (term : Lin) (n : ℤ) → constant_of term ≡ Some n → (term.sym ≡ None) × (n ≡ term.value)
constant_is term n e = by term.sym e
  where
    by : (o : Option Sym) → constant_with o term.value ≡ Some n → (o ≡ None) × (n ≡ term.value)
    by None e = (refl, sym (same_Some term.value n e))
    by (Some s) e = absurd (none-some n e)

pub symbol_is : (term : Lin) → constant_of term ≡ None → (s : Sym) × (term.sym ≡ Some s)
symbol_is term e = by term.sym e
  where
    by : (o : Option Sym) → constant_with o term.value ≡ None → (s : Sym) × (o ≡ Some s)
    by None e = absurd (none-some term.value (sym e))
    by (Some s) e = (s, refl)

pub not_fixed_right : (sets : Sets) (guess : ℕ) (left right : Lin) → IsBinary sets guess left right → (s : Sym) → right.sym ≡ Some s
    → ¬ IsFixed sets right
not_fixed_right sets guess left right given s e fixed = none-some s (sym (no_symbol sets right given.right_ready.several fixed) ∙ e)

pub not_fixed_left : (sets : Sets) (guess : ℕ) (left right : Lin) → IsBinary sets guess left right → (s : Sym) → left.sym ≡ Some s
    → ¬ IsFixed sets left
not_fixed_left sets guess left right given s e fixed = none-some s (sym (no_symbol sets left given.left_ready.several fixed) ∙ e)

module _ (model : DataModel) (sets : Sets) (guess : ℕ) (ty : IntType) (left right : Lin) (given : IsBinary sets guess left right) where
  -- products
  pub times_right : (factor : ℤ) → constant_of right ≡ Some factor → (pieces : List Piece)
      → AreOfProduct model sets guess ty left factor (Some (asked_of Mul ty left right)) pieces
      → AreRecordedAnswers model sets guess (question.Binary Mul ty left right) pieces
  times_right factor e pieces h =
      let c = constant_is right factor e in
      multiplied_split model sets guess Mul ty left right given (mul_guesses model sets ty left right) left factor
      (λ v. ap (λ (n : ℤ). value_of v left *ℤ n) (value_of-none v right c.0 ∙ sym c.1)) (inr (inl c.0)) (λ s k. inl k) pieces h

  pub times_left : (factor : ℤ) → constant_of left ≡ Some factor → (pieces : List Piece)
      → AreOfProduct model sets guess ty right factor (Some (asked_of Mul ty left right)) pieces
      → AreRecordedAnswers model sets guess (question.Binary Mul ty left right) pieces
  times_left factor e pieces h =
      let c = constant_is left factor e in
      multiplied_split model sets guess Mul ty left right given (mul_guesses model sets ty left right) right factor
      (λ v. *ℤ_comm (value_of v left) (value_of v right) ∙ ap (λ (n : ℤ). value_of v right *ℤ n) (value_of-none v left c.0 ∙ sym c.1))
      (inl (inl c.0)) (λ s k. inr k) pieces h

  pub times_neither : constant_of left ≡ None → constant_of right ≡ None → (pieces : List Piece)
      → IsWholeGuess model sets guess (asked_of Mul ty left right) pieces → AreRecordedAnswers model sets guess (question.Binary Mul ty left right) pieces
  times_neither e f pieces h =
      let s = symbol_is left e in
      let t = symbol_is right f in
      guessed_split model sets guess Mul ty left right given (mul_guesses model sets ty left right)
      (λ near. elim near [
        | inl fixed ↦ not_fixed_left sets guess left right given s.0 s.1 fixed
        | inr fixed ↦ not_fixed_right sets guess left right given t.0 t.1 fixed
      ])
      pieces h

  -- shifts to the left
  pub shifted_by : (count factor : ℤ) → constant_of right ≡ Some count → factor ≡ pos (power count) → (pieces : List Piece)
      → AreOfProduct model sets guess ty left factor (Some (asked_of Shl ty left right)) pieces
      → AreRecordedAnswers model sets guess (question.Binary Shl ty left right) pieces
  shifted_by count factor e f pieces h =
      let c = constant_is right count e in
      multiplied_split model sets guess Shl ty left right given (shl_guesses model sets ty left right) left factor
      (λ v. ap (λ (n : ℤ). value_of v left *ℤ pos (power n)) (value_of-none v right c.0 ∙ sym c.1)
      ∙ ap (λ (n : ℤ). value_of v left *ℤ n) (sym f))
      (inl c.0) (λ s k. inl k) pieces h

  pub shifted_by_symbol : constant_of right ≡ None → (pieces : List Piece) → IsWholeGuess model sets guess (asked_of Shl ty left right) pieces
      → AreRecordedAnswers model sets guess (question.Binary Shl ty left right) pieces
  shifted_by_symbol e pieces h =
      let s = symbol_is right e in
      guessed_split model sets guess Shl ty left right given (shl_guesses model sets ty left right)
      (λ fixed. not_fixed_right sets guess left right given s.0 s.1 fixed) pieces h
