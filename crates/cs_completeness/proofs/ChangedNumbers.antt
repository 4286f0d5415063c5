-- Changing the number of a symbol: how that changes the inputs and guesses of a valuation's run, by the symbol's name. For `IsEvident`.
use Rattle.std.proofs.Common.{◌≡◌, ◌≢◌, ℕ, zero, suc, ◌==◌, ℤ, Bool, true, false, cond, List, [], ◌∷◌, map, All, Some, slice_get, inl}
use Rattle.std.proofs.Common.{inr}
use Rattle.std.proofs.Common.{if◌then◌else◌, refl, sym, ap, ◌∙◌, subst}
use Rattle.std.specs.Prelude.{nat_lt, filter}
use Rattle.std.proofs.lemmas.Bool.Decides.{eqb_tells}
use Rattle.std.proofs.lemmas.List.Elements.{All-head, All-tail}
use Rattle.std.proofs.lemmas.Option.{same_Some}
use Rattle.std.specs.declared.cmp.Ordering.{Ordering}
use Rattle.std.specs.declared.cmp.Ordering.TheVariants.{Less, Equal, Greater}
use Rattle.cs_inputs.specs.declared.path.Path.{Path}
use Rattle.cs_inputs.specs.PathOrder.{path_order}
use Rattle.cs_inputs.proofs.PathOrderLaws.{path_order-tie}
use Rattle.cs_events.specs.declared.guess.Guess.{Guess}
use Rattle.cs_events.specs.Objects.{is_equal}
use Rattle.cs_terms.specs.Table.{HasEachOnce}
use Rattle.cs_terms.specs.Term.{Valuation}
use Rattle.cs_terms.specs.declared.symbol.SymName.{SymName}
use Rattle.cs_terms.specs.declared.symbol.SymName.TheVariants.{Input, Guess as GuessAt}
use Rattle.cs_state.specs.declared.asked.Asked.{Asked}
use Rattle.cs_state.specs.Valuations.{input_of, is_input_at, guess_of}
use Rattle.cs_witness.specs.Evidence.{Changes, is_input, is_guess, changed, changed_guess}

-- a valuation with another number for a symbol
abbrev pub with_number : ℕ → ℤ → Valuation → Valuation
with_number zero number v zero = number
with_number zero number v (suc other) = v (suc other)
with_number (suc symbol) number v zero = v zero
with_number (suc symbol) number v (suc other) = with_number symbol number (λ s. v (suc s)) other

pub number_there : (symbol : ℕ) (number : ℤ) (v : Valuation) → with_number symbol number v symbol ≡ number
number_there zero number v = refl
number_there (suc symbol) number v = number_there symbol number (λ s. v (suc s))

pub number_elsewhere : (symbol : ℕ) (number : ℤ) (v : Valuation) (other : ℕ) → other ≢ symbol → with_number symbol number v other ≡ v other
number_elsewhere zero number v zero apart = absurd (apart refl)
number_elsewhere zero number v (suc other) apart = refl
number_elsewhere (suc symbol) number v zero apart = refl
number_elsewhere (suc symbol) number v (suc other) apart =
    number_elsewhere symbol number (λ s. v (suc s)) other (λ same. apart (ap suc same))

-- names
tied : (order : Ordering) → is_equal order ≡ true → order ≡ Equal
tied Less is = cc
tied Equal is = refl
tied Greater is = cc

input_named : (path : Path) (name : SymName) → is_input path name ≡ true → name ≡ Input path
input_named path (Input other) is = ap (λ (p : Path). Input p) (sym (path_order-tie path other (tied (path_order path other) is)))
input_named path (GuessAt event) is = cc

same_test : (path : Path) (name : SymName) → is_input_at path name ≡ is_input path name
same_test path (Input other) = refl
same_test path (GuessAt event) = refl

same_number : (event other : ℕ) → (event == other) ≡ true → event ≡ other
same_number event other is = elim (eqb_tells event other) [ inl same ↦ same.1 | inr apart ↦ absurd (let not_so = apart.0 in cc) ]

guess_named : (event : ℕ) (name : SymName) → is_guess event name ≡ true → name ≡ GuessAt event
guess_named event (Input path) is = cc
guess_named event (GuessAt other) is = ap (λ (n : ℕ). GuessAt n) (sym (same_number event other is))

is_its_guess : (event : ℕ) → is_guess event (GuessAt event) ≡ true
is_its_guess event = elim (eqb_tells event event) [ inl same ↦ same.0 | inr apart ↦ absurd (apart.1 refl) ]

-- an input
here_too : (b : Bool) (number own other : ℤ) → (if b then number else other) ≡ (if b then number else (if b then own else other))
here_too true number own other = refl
here_too false number own other = refl

one_of_two : (first second : Bool) (number own before after : ℤ) → (first ≡ true → second ≡ true → ⊥)
    → after ≡ (if second then number else before)
    → (if first then own else after) ≡ (if second then number else (if first then own else before))
one_of_two true true number own before after apart is = absurd (apart refl refl)
one_of_two true false number own before after apart is = refl
one_of_two false second number own before after apart is = is

first_apart : {Name : Type 0} (first : Name) (names : List Name) → HasEachOnce (first ∷ names) → (symbol : ℕ) → slice_get names symbol ≡ Some first
    → ⊥
first_apart first names once symbol there =
    let same : 0 ≡ suc symbol = once 0 (suc symbol) first refl there in
    absurd (cc)

later_once : {Name : Type 0} (first : Name) (names : List Name) → HasEachOnce (first ∷ names) → HasEachOnce names
later_once first names once j k name at there =
    let same : suc j ≡ suc k = once (suc j) (suc k) name at there in
    cc

input_changed : (names : List SymName) → HasEachOnce names → (symbol : ℕ) (name : SymName) → slice_get names symbol ≡ Some name → (number : ℤ)
    (v : Valuation) (path : Path)
    → input_of names (with_number symbol number v) path ≡ (if is_input path name then number else input_of names v path)
input_changed [] once symbol name there number v path = cc
input_changed (first ∷ names) once zero name there number v path =
    let same : first ≡ name = same_Some first name there in
    rw (same_test path first) (subst (λ (n : SymName). (if is_input path first then number else input_of names (λ s. v (suc s)) path)
    ≡ (if is_input path n then number else (if is_input path first then v 0 else input_of names (λ s. v (suc s)) path))) same
    (here_too (is_input path first) number (v 0) (input_of names (λ s. v (suc s)) path)))
input_changed (first ∷ names) once (suc symbol) name there number v path =
    rw (same_test path first)
    (one_of_two (is_input path first) (is_input path name) number (v 0) (input_of names (λ s. v (suc s)) path)
    (input_of names (with_number symbol number (λ s. v (suc s))) path)
    (λ one other.
    let same : name ≡ first = input_named path name other ∙ sym (input_named path first one) in
    first_apart first names once symbol (subst (λ (n : SymName). slice_get names symbol ≡ Some n) same there))
    (input_changed names (later_once first names once) symbol name there number (λ s. v (suc s)) path))

-- the guesses before an event
abbrev pub earlier : ℕ → List Guess → List Guess
earlier event guesses = filter (λ (guess : Guess). nat_lt guess.event event) guesses

module _ (names : List SymName) where
  -- a named symbol, and its new number
  pub record Move : Type 0 where
    pub symbol : ℕ
    pub name : SymName
    pub there : slice_get names symbol ≡ Some name
    pub number : ℤ

  -- the valuation after all moves, one after the other, and the changes by names
  abbrev pub after : List Move → Valuation → Valuation
  after [] v = v
  after (move ∷ moves) v = after moves (with_number move.symbol move.number v)

  abbrev pub changes_of : List Move → Changes
  changes_of moves = map (λ (move : Move). (move.name, move.number)) moves

  -- the symbol of a guess has the name of the guess
  abbrev pub IsNamedGuess : Asked → Type 0
  IsNamedGuess asked = slice_get names asked.guess.0 ≡ Some (GuessAt asked.event)

  module _ (once : HasEachOnce names) where
    -- a guess
    guess_changed : (symbol : ℕ) (name : SymName) → slice_get names symbol ≡ Some name → (number : ℤ) (v : Valuation) (guess event : ℕ)
        → slice_get names guess ≡ Some (GuessAt event) → with_number symbol number v guess ≡ (if is_guess event name then number else v guess)
    guess_changed symbol name there number v guess event named = elim (eqb_tells guess symbol) [
      | inl same ↦
          let is : name ≡ GuessAt event
          = same_Some name (GuessAt event) (sym there ∙ subst (λ (s : ℕ). slice_get names s ≡ Some (GuessAt event)) same.1 named) in
          let yes : is_guess event name ≡ true = ap (is_guess event) is ∙ is_its_guess event in
          subst (λ (s : ℕ). with_number symbol number v s ≡ number) (sym same.1) (number_there symbol number v)
          ∙ sym (ap (λ (b : Bool). if b then number else v guess) yes)
      | inr apart ↦ by (is_guess event name) refl apart.1
    ]
      where
        by : (b : Bool) → is_guess event name ≡ b → guess ≢ symbol
            → with_number symbol number v guess ≡ (if is_guess event name then number else v guess)
        by true is apart =
            let named_so : slice_get names symbol ≡ Some (GuessAt event)
            = subst (λ (n : SymName). slice_get names symbol ≡ Some n) (guess_named event name is) there in
            absurd (apart (once guess symbol (GuessAt event) named named_so))
        by false is apart = number_elsewhere symbol number v guess apart ∙ sym (ap (λ (b : Bool). if b then number else v guess) is)

    pub inputs_after : (moves : List Move) (v : Valuation) (path : Path)
        → input_of names (after moves v) path ≡ changed (is_input path) (changes_of moves) (input_of names v path)
    inputs_after [] v path = refl
    inputs_after (move ∷ moves) v path =
        inputs_after moves (with_number move.symbol move.number v) path
        ∙ ap (changed (is_input path) (changes_of moves)) (input_changed names once move.symbol move.name move.there move.number v path)

    pub number_after : (moves : List Move) (v : Valuation) (guess event : ℕ) → slice_get names guess ≡ Some (GuessAt event)
        → after moves v guess ≡ changed (is_guess event) (changes_of moves) (v guess)
    number_after [] v guess event named = refl
    number_after (move ∷ moves) v guess event named =
        number_after moves (with_number move.symbol move.number v) guess event named
        ∙ ap (changed (is_guess event) (changes_of moves)) (guess_changed move.symbol move.name move.there move.number v guess event named)

    -- the guesses before an event
    both_kept : (f : Guess → Guess) (early : Bool) (one other : Guess) (rest others : List Guess) → one ≡ f other → rest ≡ map f others
        → cond early (one ∷ rest) rest ≡ map f (cond early (other ∷ others) others)
    both_kept f true one other rest others first second = λ i. first i ∷ second i
    both_kept f false one other rest others first second = second

    pub guesses_after : (moves : List Move) (v : Valuation) (event : ℕ) (asked : List Asked) → All IsNamedGuess asked
        → earlier event (map (guess_of (after moves v)) asked) ≡ map (changed_guess (changes_of moves)) (earlier event (map (guess_of v) asked))
    guesses_after moves v event [] named = refl
    guesses_after moves v event (one ∷ asked) named =
        both_kept (changed_guess (changes_of moves)) (nat_lt one.event event) (guess_of (after moves v) one) (guess_of v one)
        (earlier event (map (guess_of (after moves v)) asked)) (earlier event (map (guess_of v) asked))
        (λ i. record { event = one.event; number = number_after moves v one.guess.0 one.event (All-head IsNamedGuess one asked named) i })
        (guesses_after moves v event asked (All-tail IsNamedGuess one asked named))
