-- Words can be read from the last one: words that end with a part determine the part and the words before it. So equal keys have equal live
-- parts, for `keys_are_exact`.
use Rattle.std.proofs.Common.{◌≡◌, ℕ, ◌+◌, ◌*◌, ◌/◌, ◌%◌, ◌^◌, List, [], ◌∷◌, ◌++◌, length, refl, sym, ap}
use Rattle.std.proofs.Common.{◌∙◌, arith}
use Rattle.std.proofs.Common.{Bool, true, false, cond, ℤ, pos, negsuc}
use Rattle.std.specs.Prelude.{Option, None, Some, is_some, nat_lt, fold}
use Rattle.std.specs.Option.{option_to_list}
use Rattle.std.proofs.lemmas.Option.{same_Some}
use Rattle.std.proofs.lemmas.List.{same_from_push}
use Rattle.std.proofs.lemmas.Nat.{div-add-mod'}
use Rattle.cs_types.specs.declared.data_model.DataModel.TheVariants.{Lp64, Ilp32}
use Rattle.cs_model.specs.declared.standing.Standing.TheVariants.{Live, Freed, Ended}
use Rattle.cs_ranges.specs.declared.range_set.Interval.{Interval}
use Rattle.cs_store.specs.declared.value.Fill.TheVariants as fill
use Rattle.cs_keys.specs.Live.{Constant, Linear, Far, LiveValue, Number, Null, At, Start, Unset}
use Rattle.cs_keys.specs.Live.{Scalar, Whole, Nothing, LivePart}
use Rattle.cs_word_lists.specs.Written.{LAST, with_word, with_natural, zigzag, with_integer, with_list}
use Rattle.cs_constraints.specs.SetWords.{with_interval}
use Rattle.cs_keys.specs.Words.{with_set, with_symbol, with_line, with_far_line, with_plain_term, with_plain_value, with_plain_binding}
use Rattle.cs_keys.specs.Words.{numbers_of_term, numbers_of, all_numbers, with_bindings}
use Rattle.cs_keys.specs.Words.{with_term, with_value, with_temporary, with_spot, with_frame, with_returned, with_fill, with_region}
use Rattle.cs_keys.specs.Words.{with_standing, with_block, with_read, with_model, with_counters, with_position, with_memory, with_counted}
use Rattle.cs_keys.specs.Words.{words_of}

-- words that end with a part determine it
abbrev pub IsRead : {Item : Type 0} → (List ℕ → Item → List ℕ) → Type 0
IsRead {Item} with_item = (r q : List ℕ) (x y : Item) → with_item r x ≡ with_item q y → (r ≡ q) × (x ≡ y)

pub word_read : IsRead with_word
word_read r q x y e = same_from_push r q x y e

from_parts : (m n d : ℕ) → m / d ≡ n / d → m % d ≡ n % d → m ≡ n
from_parts m n d quotient remainder =
    sym (div-add-mod' m d) ∙ (λ i. quotient i * d + remainder i) ∙ div-add-mod' n d

by_size : (t u : Bool) (r q : List ℕ) (m n : ℕ) → nat_lt m LAST ≡ t → nat_lt n LAST ≡ u
    → cond t (with_word r m) (with_word (with_word (with_word r (m / 2 ^ 64)) (m % 2 ^ 64)) LAST)
    ≡ cond u (with_word q n) (with_word (with_word (with_word q (n / 2 ^ 64)) (n % 2 ^ 64)) LAST)
    → (r ≡ q) × (m ≡ n)
by_size true true r q m n small_m small_n e = word_read r q m n e
by_size true false r q m n small_m small_n e =
    let last = (word_read _ _ _ _ e).1 in absurd (let no : false ≡ true = ap (λ x. nat_lt x LAST) (sym last) ∙ small_m in cc)
by_size false true r q m n small_m small_n e =
    let last = (word_read _ _ _ _ e).1 in absurd (let no : false ≡ true = ap (λ x. nat_lt x LAST) last ∙ small_n in cc)
by_size false false r q m n small_m small_n e =
    let last = word_read _ _ _ _ e in let low = word_read _ _ _ _ last.0 in let high = word_read _ _ _ _ low.0 in
    (high.0, from_parts m n (2 ^ 64) high.1 low.1)

pub natural_read : IsRead with_natural
natural_read r q m n e = by_size (nat_lt m LAST) (nat_lt n LAST) r q m n refl refl e

zigzag_same : (x y : ℤ) → zigzag x ≡ zigzag y → x ≡ y
zigzag_same (pos m) (pos n) e = ap (λ k. pos k) (omega arith)
zigzag_same (pos m) (negsuc n) e = absurd (omega arith)
zigzag_same (negsuc m) (pos n) e = absurd (omega arith)
zigzag_same (negsuc m) (negsuc n) e = ap (λ k. negsuc k) (omega arith)

pub integer_read : IsRead with_integer
integer_read r q x y e = let a = natural_read r q (zigzag x) (zigzag y) e in (a.0, zigzag_same x y a.1)

module _ {Item : Type 0} (with_item : List ℕ → Item → List ℕ) (item_read : IsRead with_item) where
  each_read : (xs ys : List Item) → length xs ≡ length ys → (r q : List ℕ) → fold with_item r xs ≡ fold with_item q ys
      → (r ≡ q) × (xs ≡ ys)
  each_read [] [] same r q e = (e, refl)
  each_read [] (y ∷ ys) same r q e = absurd (omega arith)
  each_read (x ∷ xs) [] same r q e = absurd (omega arith)
  each_read (x ∷ xs) (y ∷ ys) same r q e =
      let rest = each_read xs ys (omega arith) (with_item r x) (with_item q y) e in
      let first = item_read r q x y rest.0 in
      (first.0, λ i. first.1 i ∷ rest.1 i)

  pub list_read : IsRead (with_list with_item)
  list_read r q xs ys e = let count = word_read _ _ _ _ e in each_read xs ys count.1 r q count.0

pub interval_read : IsRead with_interval
interval_read r q x y e =
    let high = integer_read _ _ _ _ e in let low = integer_read _ _ _ _ high.0 in (low.0, λ i. record { low = low.1 i; high = high.1 i })

pub set_read : IsRead with_set
set_read r q None None e = ((word_read _ _ _ _ e).0, refl)
set_read r q (Some x) (Some y) e =
    let form = word_read _ _ _ _ e in let set = list_read with_interval interval_read r q x y form.0 in (set.0, ap (λ s. Some s) set.1)
set_read r q x y e = let form = (word_read _ _ _ _ e).1 in absurd (omega arith)

pub symbol_read : IsRead with_symbol
symbol_read r q x y e =
    let number = word_read _ _ _ _ e in let set = set_read r q x.set y.set number.0 in
    (set.0, λ i. record { number = number.1 i; set = set.1 i })

pub line_read : IsRead with_line
line_read r q x y e =
    let symbol = symbol_read _ _ _ _ e in let origin = integer_read _ _ _ _ symbol.0 in let slope = integer_read _ _ _ _ origin.0 in
    (slope.0, λ i. record { slope = slope.1 i; origin = origin.1 i; symbol = symbol.1 i })

pub far_line_read : IsRead with_far_line
far_line_read r q x y e =
    let symbol = symbol_read _ _ _ _ e in let value = integer_read _ _ _ _ symbol.0 in let at = integer_read _ _ _ _ value.0 in
    let slope = integer_read _ _ _ _ at.0 in
    (slope.0, λ i. record { slope = slope.1 i; at = at.1 i; value = value.1 i; symbol = symbol.1 i })

pub term_read : IsRead with_term
term_read r q (Constant x) (Constant y) e =
    let form = word_read _ _ _ _ e in let number = integer_read r q x y form.0 in (number.0, ap (λ n. Constant n) number.1)
term_read r q (Linear x) (Linear y) e =
    let form = word_read _ _ _ _ e in let line = line_read r q x y form.0 in (line.0, ap (λ l. Linear l) line.1)
term_read r q (Far x) (Far y) e =
    let form = word_read _ _ _ _ e in let line = far_line_read r q x y form.0 in (line.0, ap (λ l. Far l) line.1)
term_read r q x y e = let form = (word_read _ _ _ _ e).1 in absurd (omega arith)

pub value_read : IsRead with_value
value_read r q (Number x) (Number y) e =
    let form = word_read _ _ _ _ e in let term = term_read r q x y form.0 in (term.0, ap (λ t. Number t) term.1)
value_read r q Null Null e = ((word_read _ _ _ _ e).0, refl)
value_read r q (At x s) (At y t) e =
    let form = word_read _ _ _ _ e in let base = word_read _ _ _ _ form.0 in let offset = term_read r q s t base.0 in
    (offset.0, λ i. At (base.1 i) (offset.1 i))
value_read r q (Start x s) (Start y t) e =
    let form = word_read _ _ _ _ e in let base = word_read _ _ _ _ form.0 in let offset = word_read _ _ _ _ base.0 in
    (offset.0, λ i. Start (base.1 i) (offset.1 i))
value_read r q Unset Unset e = ((word_read _ _ _ _ e).0, refl)
value_read r q x y e = let form = (word_read _ _ _ _ e).1 in absurd (omega arith)

pub temporary_read : IsRead with_temporary
temporary_read r q (Scalar x) (Scalar y) e =
    let form = word_read _ _ _ _ e in let value = value_read r q x y form.0 in (value.0, ap (λ v. Scalar v) value.1)
temporary_read r q (Whole xs) (Whole ys) e =
    let form = word_read _ _ _ _ e in let values = list_read with_value value_read r q xs ys form.0 in (values.0, ap (λ v. Whole v) values.1)
temporary_read r q Nothing Nothing e = ((word_read _ _ _ _ e).0, refl)
temporary_read r q x y e = let form = (word_read _ _ _ _ e).1 in absurd (omega arith)

pub spot_read : IsRead with_spot
spot_read r q x y e =
    let operation = word_read _ _ _ _ e in let block = word_read _ _ _ _ operation.0 in let function = word_read _ _ _ _ block.0 in
    (function.0, λ i. record { function = function.1 i; block = block.1 i; operation = operation.1 i })

pub frame_read : IsRead with_frame
frame_read r q x y e =
    let visits = list_read with_word word_read _ _ _ _ e in
    let temporaries = list_read with_temporary temporary_read _ _ _ _ visits.0 in
    let spot = spot_read _ _ _ _ temporaries.0 in let number = word_read _ _ _ _ spot.0 in
    (number.0, λ i. record { number = number.1 i; spot = spot.1 i; temporaries = temporaries.1 i; visits = visits.1 i })

pub returned_read : IsRead with_returned
returned_read r q None None e = ((word_read _ _ _ _ e).0, refl)
returned_read r q (Some x) (Some y) e =
    let form = word_read _ _ _ _ e in let value = value_read r q x y form.0 in (value.0, ap (λ v. Some v) value.1)
returned_read r q x y e = let form = (word_read _ _ _ _ e).1 in absurd (omega arith)

pub fill_read : IsRead with_fill
fill_read r q fill.Unset fill.Unset e = ((word_read _ _ _ _ e).0, refl)
fill_read r q fill.Zero fill.Zero e = ((word_read _ _ _ _ e).0, refl)
fill_read r q fill.Input fill.Input e = ((word_read _ _ _ _ e).0, refl)
fill_read r q (fill.Wrote a b) (fill.Wrote c d) e =
    let form = word_read _ _ _ _ e in let argument = word_read _ _ _ _ form.0 in let call = word_read _ _ _ _ argument.0 in
    (call.0, λ i. fill.Wrote (call.1 i) (argument.1 i))
fill_read r q x y e = let form = (word_read _ _ _ _ e).1 in absurd (omega arith)

-- both mention a symbol or neither does, and they are equal if its numbers are
record AreAlike {Item : Type 0} (numbers : Item → Option (Option (List Interval))) (x y : Item) : Type 0 where
  both : is_some (numbers x) ≡ is_some (numbers y)
  same : numbers x ≡ numbers y → x ≡ y

-- words that end with a part determine it except for the numbers of its symbol
abbrev IsReadPlain : {Item : Type 0} → (List ℕ → Item → List ℕ) → (Item → Option (Option (List Interval))) → Type 0
IsReadPlain {Item} with_item numbers = (r q : List ℕ) (x y : Item) → with_item r x ≡ with_item q y → (r ≡ q) × AreAlike numbers x y

plain_term_read : IsReadPlain with_plain_term numbers_of_term
plain_term_read r q (Constant x) (Constant y) e =
    let form = word_read _ _ _ _ e in let number = integer_read r q x y form.0 in
    (number.0, record { both = refl; same = λ none. ap (λ n. Constant n) number.1 })
plain_term_read r q (Linear x) (Linear y) e =
    let form = word_read _ _ _ _ e in let symbol = word_read _ _ _ _ form.0 in let origin = integer_read _ _ _ _ symbol.0 in
    let slope = integer_read _ _ _ _ origin.0 in (
      slope.0,
      record {
        both = refl;
        same = λ numbers i. Linear (record {
          slope = slope.1 i;
          origin = origin.1 i;
          symbol = record { number = symbol.1 i; set = same_Some x.symbol.set y.symbol.set numbers i };
        });
      },
    )
plain_term_read r q (Far x) (Far y) e =
    let form = word_read _ _ _ _ e in let symbol = word_read _ _ _ _ form.0 in let value = integer_read _ _ _ _ symbol.0 in
    let at = integer_read _ _ _ _ value.0 in let slope = integer_read _ _ _ _ at.0 in (
      slope.0,
      record {
        both = refl;
        same = λ numbers i. Far (record {
          slope = slope.1 i;
          at = at.1 i;
          value = value.1 i;
          symbol = record { number = symbol.1 i; set = same_Some x.symbol.set y.symbol.set numbers i };
        });
      },
    )
plain_term_read r q x y e = let form = (word_read _ _ _ _ e).1 in absurd (omega arith)

plain_value_read : IsReadPlain with_plain_value numbers_of
plain_value_read r q (Number x) (Number y) e =
    let form = word_read _ _ _ _ e in let term = plain_term_read r q x y form.0 in
    (term.0, record { both = term.1.both; same = λ numbers. ap (λ t. Number t) (term.1.same numbers) })
plain_value_read r q Null Null e = ((word_read _ _ _ _ e).0, record { both = refl; same = λ none. refl })
plain_value_read r q (At x s) (At y t) e =
    let form = word_read _ _ _ _ e in let base = word_read _ _ _ _ form.0 in let offset = plain_term_read r q s t base.0 in
    (offset.0, record { both = offset.1.both; same = λ numbers i. At (base.1 i) (offset.1.same numbers i) })
plain_value_read r q (Start x s) (Start y t) e =
    let form = word_read _ _ _ _ e in let base = word_read _ _ _ _ form.0 in let offset = word_read _ _ _ _ base.0 in
    (offset.0, record { both = refl; same = λ none i. Start (base.1 i) (offset.1 i) })
plain_value_read r q Unset Unset e = ((word_read _ _ _ _ e).0, record { both = refl; same = λ none. refl })
plain_value_read r q x y e = let form = (word_read _ _ _ _ e).1 in absurd (omega arith)

abbrev first_or : {A : Type 0} → A → List A → A
first_or default [] = default
first_or default (x ∷ xs) = x

abbrev others : {A : Type 0} → List A → List A
others [] = []
others (x ∷ xs) = xs

-- lists of numbers that begin with those of two alike parts
numbers_split : (a b : Option (Option (List Interval))) (s t : List (Option (List Interval))) → is_some a ≡ is_some b
    → option_to_list a ++ s ≡ option_to_list b ++ t → (a ≡ b) × (s ≡ t)
numbers_split None None s t both e = (refl, e)
numbers_split (Some x) (Some y) s t both e = (ap (λ list. Some (first_or x list)) e, ap others e)
numbers_split None (Some y) s t both e = absurd (cc)
numbers_split (Some x) None s t both e = absurd (cc)

each_plain_read : (xs ys : List (ℕ × LiveValue)) → length xs ≡ length ys → (r q : List ℕ)
    → fold with_plain_binding r xs ≡ fold with_plain_binding q ys → (r ≡ q) × (all_numbers xs ≡ all_numbers ys → xs ≡ ys)
each_plain_read [] [] same r q e = (e, λ none. refl)
each_plain_read [] (y ∷ ys) same r q e = absurd (omega arith)
each_plain_read (x ∷ xs) [] same r q e = absurd (omega arith)
each_plain_read (x ∷ xs) (y ∷ ys) same r q e =
    let rest = each_plain_read xs ys (omega arith) (with_plain_binding r x) (with_plain_binding q y) e in
    let offset = word_read _ _ _ _ rest.0 in let value = plain_value_read r q x.1 y.1 offset.0 in (
      value.0,
      λ numbers.
          let first = numbers_split (numbers_of x.1) (numbers_of y.1) (all_numbers xs) (all_numbers ys) value.1.both numbers in
          λ i. (offset.1 i, value.1.same first.0 i) ∷ rest.1 first.1 i,
    )

pub bindings_read : IsRead with_bindings
bindings_read r q xs ys e =
    let numbers = list_read with_set set_read _ _ _ _ e in let count = word_read _ _ _ _ numbers.0 in
    let bindings = each_plain_read xs ys count.1 r q count.0 in (bindings.0, bindings.1 numbers.1)

pub region_read : IsRead with_region
region_read r q x y e =
    let bindings = bindings_read _ _ _ _ e in let fill = fill_read _ _ _ _ bindings.0 in let base = word_read _ _ _ _ fill.0 in
    (base.0, λ i. record { base = base.1 i; fill = fill.1 i; bindings = bindings.1 i })

pub standing_read : IsRead with_standing
standing_read r q Live Live e = ((word_read _ _ _ _ e).0, refl)
standing_read r q Freed Freed e = ((word_read _ _ _ _ e).0, refl)
standing_read r q Ended Ended e = ((word_read _ _ _ _ e).0, refl)
standing_read r q x y e = let form = (word_read _ _ _ _ e).1 in absurd (omega arith)

pub block_read : IsRead with_block
block_read r q x y e =
    let made_by = word_read _ _ _ _ e in let symbol = symbol_read _ _ _ _ made_by.0 in let element = word_read _ _ _ _ symbol.0 in
    let standing = standing_read _ _ _ _ element.0 in let extent = term_read _ _ _ _ standing.0 in let base = word_read _ _ _ _ extent.0 in (
      base.0,
      λ i. record {
        base = base.1 i;
        extent = extent.1 i;
        standing = standing.1 i;
        element = element.1 i;
        symbol = symbol.1 i;
        made_by = made_by.1 i;
      },
    )

pub cell_read : IsRead with_read
cell_read r q x y e =
    let offset = word_read _ _ _ _ e in let base = word_read _ _ _ _ offset.0 in let symbol = symbol_read _ _ _ _ base.0 in
    (symbol.0, λ i. record { base = base.1 i; offset = offset.1 i; symbol = symbol.1 i })

pub model_read : IsRead with_model
model_read r q Lp64 Lp64 e = ((word_read _ _ _ _ e).0, refl)
model_read r q Ilp32 Ilp32 e = ((word_read _ _ _ _ e).0, refl)
model_read r q x y e = let form = (word_read _ _ _ _ e).1 in absurd (omega arith)

pub counters_read : IsRead with_counters
counters_read r q x y e =
    let events = word_read _ _ _ _ e in let calls = word_read _ _ _ _ events.0 in let allocations = word_read _ _ _ _ calls.0 in
    let frames = word_read _ _ _ _ allocations.0 in
    (frames.0, λ i. record { frames = frames.1 i; allocations = allocations.1 i; calls = calls.1 i; events = events.1 i })

position_read : (r q : List ℕ) (x y : LivePart) → with_position r x ≡ with_position q y
    → (r ≡ q) × (x.frame ≡ y.frame) × (x.callers ≡ y.callers) × (x.answers ≡ y.answers) × (x.returned ≡ y.returned)
position_read r q x y e =
    let returned = returned_read _ _ _ _ e in
    let answers = list_read with_term term_read _ _ _ _ returned.0 in
    let callers = list_read with_frame frame_read _ _ _ _ answers.0 in
    let frame = frame_read _ _ _ _ callers.0 in
    (frame.0, frame.1, callers.1, answers.1, returned.1)

memory_read : (r q : List ℕ) (x y : LivePart) → with_memory r x ≡ with_memory q y
    → (r ≡ q) × (x.regions ≡ y.regions) × (x.blocks ≡ y.blocks) × (x.read ≡ y.read)
memory_read r q x y e =
    let read = list_read with_read cell_read _ _ _ _ e in
    let blocks = list_read with_block block_read _ _ _ _ read.0 in
    let regions = list_read with_region region_read _ _ _ _ blocks.0 in
    (regions.0, regions.1, blocks.1, read.1)

counted_read : (r q : List ℕ) (x y : LivePart) → with_counted r x ≡ with_counted q y
    → (r ≡ q) × (x.model ≡ y.model) × (x.counters ≡ y.counters) × (x.phase ≡ y.phase)
counted_read r q x y e =
    let phase = word_read _ _ _ _ e in let counters = counters_read _ _ _ _ phase.0 in let model = model_read _ _ _ _ counters.0 in
    (model.0, model.1, counters.1, phase.1)

pub same_words : (one other : LivePart) → words_of one ≡ words_of other → one ≡ other
same_words one other e =
    let counted = counted_read (with_memory (with_position [] one) one) (with_memory (with_position [] other) other) one other e in
    let memory = memory_read (with_position [] one) (with_position [] other) one other counted.0 in
    let position = position_read [] [] one other memory.0 in
    λ i. record {
      frame = position.1 i;
      callers = position.2 i;
      answers = position.3 i;
      returned = position.4 i;
      regions = memory.1 i;
      blocks = memory.2 i;
      read = memory.3 i;
      model = counted.1 i;
      counters = counted.2 i;
      phase = counted.3 i;
    }
