-- The listing of a region is the words that a key has for its bindings, and the symbols whose numbers follow them: for `bindings`.
use Rattle.std.proofs.Common.{◌≡◌, ℕ, Bool, true, false, cond, List, [], ◌∷◌, ◌++◌, map, refl, sym, ap, ◌∙◌}
use Rattle.std.specs.Prelude.{fold, Option, None, Some, option_map}
use Rattle.std.specs.Option.{option_to_list}
use Rattle.std.proofs.lemmas.List.{length-map, append-nil, map-append}
use Rattle.std.proofs.lemmas.Option.{same_Some}
use Rattle.cs_ranges.specs.declared.range_set.Interval.{Interval}
use Rattle.cs_terms.specs.declared.term.Lin.{Lin}
use Rattle.cs_terms.specs.declared.symbol.Sym.{Sym}
use Rattle.cs_constraints.specs.Constraints.{Sets, set_of}
use Rattle.cs_constraints.specs.SetWords.{with_interval, with_numbers, set_words}
use Rattle.cs_word_lists.specs.Written.{with_word, with_integer, with_list}
use Rattle.cs_word_lists.proofs.After.{IsAfter, word_after, word_next, integer_after, list_after}
use Rattle.cs_store.specs.declared.value.Value.{Value}
use Rattle.cs_store.specs.declared.value.Value.TheVariants as value
use Rattle.cs_store.specs.Listings.{origin_of, has_origin, list_near, list_far, list_term_over, list_term, list_value, list_binding}
use Rattle.cs_store.specs.Listings.{symbol_in, symbols_in, listing_of}
use Rattle.cs_keys.specs.Live.{LiveTerm, Linear, Far, live_line, far_line, live_over, live_value, live_binding}
use Rattle.cs_keys.specs.Words.{with_set, with_plain_term, with_plain_value, with_plain_binding, numbers_of_term, numbers_of, all_numbers}

interval_after : IsAfter with_interval
interval_after front words interval =
    integer_after front (with_integer words interval.low) interval.high
    ∙ ap (λ words. with_integer words interval.high) (integer_after front words interval.low)

-- the words of a set after others
pub numbers_after : (front : List ℕ) (set : List Interval) → front ++ set_words set ≡ with_numbers front set
numbers_after front set =
    word_next front (with_list with_interval [] set) _ 1
    (list_after with_interval interval_after front [] set ∙ ap (λ words. with_list with_interval words set) (append-nil front))

-- the words of a symbol's numbers, if it is declared
pub symbol_numbers : (front words : List ℕ) (found : Option (List Interval)) → Some words ≡ option_map set_words found
    → front ++ words ≡ with_set front found
symbol_numbers front words None e = absurd (cc)
symbol_numbers front words (Some set) e = ap (λ words. front ++ words) (same_Some words (set_words set) e) ∙ numbers_after front set

near_after : (symbol : Sym) → IsAfter (list_near symbol)
near_after symbol front words term =
    word_next _ _ _ symbol.0 (integer_after front (with_integer words term.slope) (origin_of term)
    ∙ ap (λ words. with_integer words (origin_of term)) (integer_after front words term.slope))

far_after : (symbol : Sym) → IsAfter (list_far symbol)
far_after symbol front words term =
    let slope = integer_after front words term.slope in
    let at = integer_after front (with_integer words term.slope) term.at ∙ ap (λ words. with_integer words term.at) slope in
    word_next _ _ _ symbol.0 (integer_after front (with_integer (with_integer words term.slope) term.at) term.value
    ∙ ap (λ words. with_integer words term.value) at)

abbrev formed : Bool → Sym → List ℕ → Lin → List ℕ
formed is_near symbol words term = cond is_near (with_word (list_near symbol words term) 1) (with_word (list_far symbol words term) 2)

formed_after : (is_near : Bool) (symbol : Sym) → IsAfter (formed is_near symbol)
formed_after true symbol front words term = word_next _ _ _ 1 (near_after symbol front words term)
formed_after false symbol front words term = word_next _ _ _ 2 (far_after symbol front words term)

term_over_after : (symbol : Option Sym) → IsAfter (list_term_over symbol)
term_over_after None front words term = word_next _ _ _ 0 (integer_after front words term.value)
term_over_after (Some symbol) front words term = formed_after (has_origin term) symbol front words term

term_after : IsAfter list_term
term_after front words term = term_over_after term.sym front words term

value_after : IsAfter list_value
value_after front words (value.Number term) = word_next _ _ _ 0 (term_after front words term)
value_after front words value.Null = word_after front words 1
value_after front words (value.At base offset) = word_next _ _ _ 2 (word_next _ _ _ base (term_after front words offset))
value_after front words (value.Start base offset) = word_next _ _ _ 3 (word_next _ _ _ base (word_after front words offset))
value_after front words value.Unset = word_after front words 4

binding_after : IsAfter list_binding
binding_after front words binding = word_next front (list_value words binding.1) _ binding.0 (value_after front words binding.1)

module _ (sets : Sets) where
  abbrev live_formed : Bool → Sym → Lin → LiveTerm
  live_formed is_near symbol term = cond is_near (Linear (live_line sets symbol term)) (Far (far_line sets symbol term))

  plain_formed : (is_near : Bool) (symbol : Sym) (term : Lin) (words : List ℕ)
      → with_plain_term words (live_formed is_near symbol term) ≡ formed is_near symbol words term
  plain_formed true symbol term words = refl
  plain_formed false symbol term words = refl

  plain_term : (symbol : Option Sym) (term : Lin) (words : List ℕ)
      → with_plain_term words (live_over sets symbol term) ≡ list_term_over symbol words term
  plain_term None term words = refl
  plain_term (Some symbol) term words = plain_formed (has_origin term) symbol term words

  plain_value : (v : Value) (words : List ℕ) → with_plain_value words (live_value sets v) ≡ list_value words v
  plain_value (value.Number term) words = ap (λ words. with_word words 0) (plain_term term.sym term words)
  plain_value value.Null words = refl
  plain_value (value.At base offset) words = ap (λ words. with_word (with_word words base) 2) (plain_term offset.sym offset words)
  plain_value (value.Start base offset) words = refl
  plain_value value.Unset words = refl

  plain_bindings : (bindings : List (ℕ × Value)) (words : List ℕ)
      → fold with_plain_binding words (map (live_binding sets) bindings) ≡ fold list_binding words bindings
  plain_bindings [] words = refl
  plain_bindings (b ∷ bindings) words =
      ap (λ words. fold with_plain_binding (with_word words b.0) (map (live_binding sets) bindings)) (plain_value b.1 words)
      ∙ plain_bindings bindings (list_binding words b)

  -- the words of a listing after others
  pub listed_words : (front : List ℕ) (bindings : List (ℕ × Value))
      → front ++ (listing_of bindings).words ≡ with_list with_plain_binding front (map (live_binding sets) bindings)
  listed_words front bindings =
      list_after list_binding binding_after front [] bindings ∙ ap (λ words. with_list list_binding words bindings) (append-nil front)
      ∙ (λ i. with_word (sym (plain_bindings bindings front) i) (sym (length-map bindings (live_binding sets)) i))

  abbrev numbers_in : Sym → Option (List Interval)
  numbers_in symbol = set_of sets symbol.0

  numbers_formed : (is_near : Bool) (symbol : Sym) (term : Lin)
      → option_to_list (numbers_of_term (live_formed is_near symbol term)) ≡ numbers_in symbol ∷ []
  numbers_formed true symbol term = refl
  numbers_formed false symbol term = refl

  numbers_over : (symbol : Option Sym) (term : Lin)
      → option_to_list (numbers_of_term (live_over sets symbol term)) ≡ map numbers_in (option_to_list symbol)
  numbers_over None term = refl
  numbers_over (Some symbol) term = numbers_formed (has_origin term) symbol term

  numbers_of_value : (v : Value) → option_to_list (numbers_of (live_value sets v)) ≡ map numbers_in (option_to_list (symbol_in v))
  numbers_of_value (value.Number term) = numbers_over term.sym term
  numbers_of_value value.Null = refl
  numbers_of_value (value.At base offset) = numbers_over offset.sym offset
  numbers_of_value (value.Start base offset) = refl
  numbers_of_value value.Unset = refl

  -- the numbers of the symbols of a listing
  pub listed_numbers : (bindings : List (ℕ × Value)) → map numbers_in (symbols_in bindings) ≡ all_numbers (map (live_binding sets) bindings)
  listed_numbers [] = refl
  listed_numbers (b ∷ bindings) =
      map-append numbers_in (option_to_list (symbol_in b.1)) (symbols_in bindings)
      ∙ (λ i. sym (numbers_of_value b.1) i ++ listed_numbers bindings i)
