-- The checks of each operator in its act: each stops with its kind of fault exactly if the subject is faulty for it.
use Rattle.std.proofs.Common.{◌≡◌, ℕ, ◌*◌, ℤ, pos, negsuc, int_lt, int_le, Bool, true, false, not, ◌&&◌, ◌||◌, true≢false, Option, None}
use Rattle.std.proofs.Common.{Some, if◌then◌else◌, refl, sym, ap, ◌∙◌, arith}
use Rattle.std.proofs.lemmas.Int.{ints}
use Rattle.std.specs.Ordering.{int_eq}
use Rattle.cs_types.specs.declared.data_model.DataModel.{DataModel}
use Rattle.cs_types.specs.declared.int_type.IntType.{IntType}
use Rattle.cs_types.specs.IntType.{bytes_of}
use Rattle.cs_ast.specs.declared.place.Place.{Place}
use Rattle.cs_model.specs.declared.kind.Kind.{Kind}
use Rattle.cs_model.specs.declared.kind.Kind.TheVariants as kind
use Rattle.cs_terms.specs.declared.term.Lin.{Lin}
use Rattle.cs_terms.specs.declared.term.Lin2.{Lin2}
use Rattle.cs_terms.specs.Term.{Valuation, value_of, value_of_sum}
use Rattle.cs_checker.specs.declared.subject.Subject.{Subject}
use Rattle.cs_checker.specs.declared.subject.Subject.TheVariants.{Through, Move, Divisor, Cell as OfCell, Rest, Shift, Pair}
use Rattle.cs_checker.specs.Faults.{is_faulty_for}
use Rattle.cs_checker.specs.Answers.{constant}
use Rattle.cs_events.specs.declared.outcome.Outcome.TheVariants.{Fault}
use Rattle.cs_events.specs.Operations.{is_true}
use Rattle.cs_events.specs.Objects.{Cell, NumberCell, NullCell, PointerCell, UnsetCell}
use Rattle.cs_events.specs.Acts.{Act, Stops}
use Rattle.cs_meaning.specs.Access as access
use Rattle.cs_meaning.specs.Operators as operators
use Rattle.cs_cfg.specs.Working.{CodeState}
use Rattle.cs_operators.specs.Asking.{IsCheckOf}

-- whether a cell is null
abbrev pub is_null : Cell → Bool
is_null NullCell = true
is_null (NumberCell n) = false
is_null (PointerCell object offset) = false
is_null UnsetCell = false

-- an order test as a number that is faulty below 0: 0 if it holds, else -1
abbrev pub rest_of : Bool → Lin2
rest_of holds = record { first = constant (if holds then pos 0 else negsuc 0); second = constant (pos 0) }

-- whether two pointers point into one object
abbrev pub is_there : Option (ℤ × ℤ) → Bool
is_there None = false
is_there (Some offsets) = true

-- whether a cell was never set
abbrev pub is_never_set : Cell → Bool
is_never_set UnsetCell = true
is_never_set (NumberCell n) = false
is_never_set NullCell = false
is_never_set (PointerCell object offset) = false

module _ (at : Place) (v : Valuation) where
  -- a check of a single kind
  of_kind : (subject : Subject) (one : Kind) (fault : Bool) (checked : Act CodeState → Act CodeState)
      → ((other : Kind) → is_faulty_for other subject v ≡ true → (other ≡ one) × (fault ≡ true))
      → (fault ≡ false → is_faulty_for one subject v ≡ false → (act : Act CodeState) → checked act ≡ act)
      → (fault ≡ true → (act : Act CodeState) → checked act ≡ Stops (Fault one at))
      → is_faulty_for one subject v ≡ fault → IsCheckOf subject at v checked
  of_kind subject one fault checked alone good faulty is = record {
    faulty = λ other holds act.
        let (same, so) = alone other holds in
        faulty so act ∙ ap (λ k. Stops (Fault k at)) (sym same);
    good = λ never act. good (sym is ∙ never one) (never one) act;
  }

  -- each subject has only one kind of faults
  only_null : (null : Bool) (other : Kind) → is_faulty_for other (Through null) v ≡ true → (other ≡ kind.Null) × (null ≡ true)
  only_null null kind.Null holds = (refl, holds)
  only_null null other holds = absurd (true≢false (sym holds))

  only_move : (null : Bool) (amount : Lin) (other : Kind) → is_faulty_for other (Move null amount) v ≡ true
      → (other ≡ kind.Null) × ((null && not (int_eq (value_of v amount) (pos 0))) ≡ true)
  only_move null amount kind.Null holds = (refl, holds)
  only_move null amount other holds = absurd (true≢false (sym holds))

  only_divide : (term : Lin) (other : Kind) → is_faulty_for other (Divisor term) v ≡ true
      → (other ≡ kind.Divide) × (int_eq (value_of v term) (pos 0) ≡ true)
  only_divide term kind.Divide holds = (refl, holds)
  only_divide term other holds = absurd (true≢false (sym holds))

  only_unset : (unset : Bool) (other : Kind) → is_faulty_for other (OfCell unset) v ≡ true → (other ≡ kind.Unset) × (unset ≡ true)
  only_unset unset kind.Unset holds = (refl, holds)
  only_unset unset other holds = absurd (true≢false (sym holds))

  only_bounds : (term : Lin2) (other : Kind) → is_faulty_for other (Rest term) v ≡ true
      → (other ≡ kind.Bounds) × (int_lt (value_of_sum v term) (pos 0) ≡ true)
  only_bounds term kind.Bounds holds = (refl, holds)
  only_bounds term other holds = absurd (true≢false (sym holds))

  only_shift : (count : Lin) (width : ℕ) (other : Kind) → is_faulty_for other (Shift count width) v ≡ true
      → (other ≡ kind.Shift) × ((int_lt (value_of v count) (pos 0) || int_le (pos width) (value_of v count)) ≡ true)
  only_shift count width kind.Shift holds = (refl, holds)
  only_shift count width other holds = absurd (true≢false (sym holds))

  only_unrelated : (same : Bool) (other : Kind) → is_faulty_for other (Pair same) v ≡ true → (other ≡ kind.Unrelated) × (not same ≡ true)
  only_unrelated same kind.Unrelated holds = (refl, holds)
  only_unrelated same other holds = absurd (true≢false (sym holds))

  -- `*p` and `p->m`
  if_null : (cell : Cell) (act : Act CodeState) → is_null cell ≡ true → access.not_null at cell act ≡ Stops (Fault kind.Null at)
  if_null NullCell act null = refl
  if_null (NumberCell n) act null = absurd (true≢false (sym null))
  if_null (PointerCell object offset) act null = absurd (true≢false (sym null))
  if_null UnsetCell act null = absurd (true≢false (sym null))

  if_there : (cell : Cell) (act : Act CodeState) → is_null cell ≡ false → access.not_null at cell act ≡ act
  if_there NullCell act there = absurd (true≢false there)
  if_there (NumberCell n) act there = refl
  if_there (PointerCell object offset) act there = refl
  if_there UnsetCell act there = refl

  pub through_check : (null : Bool) (cell : Cell) → is_null cell ≡ null → IsCheckOf (Through null) at v (access.not_null at cell)
  through_check null cell same =
      of_kind (Through null) kind.Null null (access.not_null at cell) (only_null null)
      (λ there none act. if_there cell act (same ∙ there)) (λ is act. if_null cell act (same ∙ is)) refl

  -- a pointer that isn't null is moved without a check; null may only be moved by 0
  pub moved_check : (amount : Lin) → IsCheckOf (Move false amount) at v (λ act. act)
  moved_check amount =
      of_kind (Move false amount) kind.Null false (λ act. act) (only_move false amount) (λ there none act. refl)
      (λ never act. absurd (true≢false (sym never))) refl

  pub null_check : (amount : Lin) → IsCheckOf (Move true amount) at v (operators.unmoved at (value_of v amount))
  null_check amount =
      of_kind (Move true amount) kind.Null (not (int_eq (value_of v amount) (pos 0))) (operators.unmoved at (value_of v amount))
      (only_move true amount) (λ none never act. stays (int_eq (value_of v amount) (pos 0)) act none)
      (λ some act. moves (int_eq (value_of v amount) (pos 0)) act some) refl
    where
      stays : (zero : Bool) (act : Act CodeState) → not zero ≡ false → (if zero then act else Stops (Fault kind.Null at)) ≡ act
      stays true act none = refl
      stays false act none = absurd (true≢false none)

      moves : (zero : Bool) (act : Act CodeState) → not zero ≡ true
          → (if zero then act else Stops (Fault kind.Null at)) ≡ Stops (Fault kind.Null at)
      moves true act some = absurd (true≢false (sym some))
      moves false act some = refl

  -- `/` and `%`
  pub divide_check : (term : Lin) → IsCheckOf (Divisor term) at v (operators.divide at (value_of v term))
  divide_check term =
      of_kind (Divisor term) kind.Divide (int_eq (value_of v term) (pos 0)) (operators.divide at (value_of v term)) (only_divide term)
      (λ other none act. ap (λ zero. if zero then Stops (Fault kind.Divide at) else act) other)
      (λ zero act. ap (λ zero. if zero then Stops (Fault kind.Divide at) else act) zero) refl

  -- `<<` and `>>`
  pub shift_check : (model : DataModel) (ty : IntType) (count : Lin)
      → IsCheckOf (Shift count (8 * bytes_of model ty)) at v (operators.shift model at ty (value_of v count))
  shift_check model ty count =
      of_kind (Shift count width) kind.Shift (int_lt number (pos 0) || int_le (pos width) number) (operators.shift model at ty number)
      (only_shift count width)
      (λ none never act. ap (λ within. if within then act else Stops (Fault kind.Shift at)) (opposite number (pos width) ∙ ap not none))
      (λ some act. ap (λ within. if within then act else Stops (Fault kind.Shift at)) (opposite number (pos width) ∙ ap not some)) refl
    where
      width : ℕ
      width = 8 * bytes_of model ty

      number : ℤ
      number = value_of v count

      opposite : (n w : ℤ) → (int_le (pos 0) n && int_lt n w) ≡ not (int_lt n (pos 0) || int_le w n)
      opposite n w = grind (arith, ints)

  -- a cell that has to be a pointer, and points to no object
  pub unset_check : IsCheckOf (OfCell true) at v (λ act. Stops (Fault kind.Unset at))
  unset_check =
      of_kind (OfCell true) kind.Unset true (λ act. Stops (Fault kind.Unset at)) (only_unset true)
      (λ never none act. absurd (true≢false never)) (λ is act. refl) refl

  -- a value that has to be set
  if_set : (cell : Cell) (act : Act CodeState) → is_never_set cell ≡ false → access.set_then at cell act ≡ act
  if_set (NumberCell n) act set = refl
  if_set NullCell act set = refl
  if_set (PointerCell object offset) act set = refl
  if_set UnsetCell act set = absurd (true≢false set)

  if_unset : (cell : Cell) (act : Act CodeState) → is_never_set cell ≡ true → access.set_then at cell act ≡ Stops (Fault kind.Unset at)
  if_unset (NumberCell n) act unset = absurd (true≢false (sym unset))
  if_unset NullCell act unset = absurd (true≢false (sym unset))
  if_unset (PointerCell object offset) act unset = absurd (true≢false (sym unset))
  if_unset UnsetCell act unset = refl

  pub set_check : (unset : Bool) (cell : Cell) → is_never_set cell ≡ unset → IsCheckOf (OfCell unset) at v (access.set_then at cell)
  set_check unset cell same =
      of_kind (OfCell unset) kind.Unset unset (access.set_then at cell) (only_unset unset)
      (λ set none act. if_set cell act (same ∙ set)) (λ is act. if_unset cell act (same ∙ is)) refl

  -- an order test
  below : (holds : Bool) → int_lt (value_of_sum v (rest_of holds)) (pos 0) ≡ not holds
  below true = refl
  below false = refl

  holds_not : (b c : Bool) → b ≡ not c → b ≡ false → c ≡ true
  holds_not b true is so = refl
  holds_not b false is so = absurd (true≢false (sym is ∙ so))

  fails_not : (b c : Bool) → b ≡ not c → b ≡ true → c ≡ false
  fails_not b true is so = absurd (true≢false (sym so ∙ is))
  fails_not b false is so = refl

  pub rest_check : (holds : Bool) (number : ℤ) → is_true number ≡ holds → IsCheckOf (Rest (rest_of holds)) at v (access.within at number)
  rest_check holds number is =
      of_kind (Rest (rest_of holds)) kind.Bounds (int_lt (value_of_sum v (rest_of holds)) (pos 0)) (access.within at number)
      (only_bounds (rest_of holds))
      (λ good none act. ap (λ b. if b then act else Stops (Fault kind.Bounds at)) (is ∙ holds_not _ holds (below holds) good))
      (λ bad act. ap (λ b. if b then act else Stops (Fault kind.Bounds at)) (is ∙ fails_not _ holds (below holds) bad)) refl

  -- two pointers that have to point into one object
  no_object : (found : Option (ℤ × ℤ)) (act : Act CodeState) → not (is_there found) ≡ true
      → operators.one_object at found act ≡ Stops (Fault kind.Unrelated at)
  no_object None act none = refl
  no_object (Some offsets) act none = absurd (true≢false (sym none))

  an_object : (found : Option (ℤ × ℤ)) (act : Act CodeState) → not (is_there found) ≡ false → operators.one_object at found act ≡ act
  an_object None act some = absurd (true≢false some)
  an_object (Some offsets) act some = refl

  pub pair_check : (same : Bool) (found : Option (ℤ × ℤ)) → is_there found ≡ same → IsCheckOf (Pair same) at v (operators.one_object at found)
  pair_check same found is =
      of_kind (Pair same) kind.Unrelated (not same) (operators.one_object at found) (only_unrelated same)
      (λ some none act. an_object found act (ap not is ∙ some)) (λ none act. no_object found act (ap not is ∙ none)) refl
