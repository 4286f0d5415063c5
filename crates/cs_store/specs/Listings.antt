-- Listings: the words of the values that are bound in a region, and the symbols that they mention. A term is listed as its slope, its value
-- where its symbol is 0, and the number of its symbol; the numbers that the symbol may have aren't listed. A term whose value at 0 can't be
-- computed in 128 bits is listed as it is.
use Rattle.std.specs.Prelude.{◌≡◌, ◌^◌, ℕ, ℤ, pos, neg_ℤ, int_le, int_lt, ◌-ℤ◌, ◌*ℤ◌, Bool, ◌&&◌, if◌then◌else◌, List, [], Option, None, Some}
use Rattle.std.specs.FinMap as finite
use Rattle.std.specs.List.{flat_map}
use Rattle.std.specs.Option.{option_to_list}
use Rattle.cs_word_lists.specs.Written.{with_word, with_integer, with_list}
use Rattle.cs_pmap.specs.Keys.{key_cmp}
use Rattle.cs_terms.specs.declared.symbol.Sym.{Sym}
use Rattle.cs_terms.specs.declared.term.Lin.{Lin}
use Rattle.cs_store.specs.declared.value.Value.{Value}
use Rattle.cs_store.specs.declared.value.Value.TheVariants.{Number, Null, At, Start, Unset}
use Rattle.cs_store.specs.Contents.{by_number}

-- whether an integer fits in 128 bits
abbrev pub fits_128 : ℤ → Bool
fits_128 number = int_le (neg_ℤ (pos (2 ^ 127))) number && int_lt number (pos (2 ^ 127))

-- the value of a term where its symbol is 0
abbrev pub origin_of : Lin → ℤ
origin_of term = term.value -ℤ (term.slope *ℤ term.at)

-- whether that value can be computed in 128 bits: the product fits, and then the difference
abbrev pub has_origin : Lin → Bool
has_origin term = fits_128 (term.slope *ℤ term.at) && fits_128 (origin_of term)

-- a term over a symbol, with its value at 0
abbrev pub list_near : Sym → List ℕ → Lin → List ℕ
list_near sym words term = with_word (with_integer (with_integer words term.slope) (origin_of term)) sym.0

-- a term over a symbol as it is
abbrev pub list_far : Sym → List ℕ → Lin → List ℕ
list_far sym words term = with_word (with_integer (with_integer (with_integer words term.slope) term.at) term.value) sym.0

-- the last word of a term is 0 for a constant, 1 for a term listed with its value at 0, and 2 for a term listed as it is
abbrev pub list_term_over : Option Sym → List ℕ → Lin → List ℕ
list_term_over None words term = with_word (with_integer words term.value) 0
list_term_over (Some sym) words term =
    if has_origin term then with_word (list_near sym words term) 1 else with_word (list_far sym words term) 2

abbrev pub list_term : List ℕ → Lin → List ℕ
list_term words term = list_term_over term.sym words term

-- the last word of a value is the number of its form
abbrev pub list_value : List ℕ → Value → List ℕ
list_value words (Number term) = with_word (list_term words term) 0
list_value words Null = with_word words 1
list_value words (At base offset) = with_word (with_word (list_term words offset) base) 2
list_value words (Start base offset) = with_word (with_word (with_word words offset) base) 3
list_value words Unset = with_word words 4

-- a value, followed by its offset
abbrev pub list_binding : List ℕ → ℕ × Value → List ℕ
list_binding words binding = with_word (list_value words binding.1) binding.0

-- the symbol that a value mentions, if there is one
abbrev pub symbol_in : Value → Option Sym
symbol_in (Number term) = term.sym
symbol_in Null = None
symbol_in (At base offset) = offset.sym
symbol_in (Start base offset) = None
symbol_in Unset = None

-- the symbols that bindings mention, in order
abbrev pub symbols_in : List (ℕ × Value) → List Sym
symbols_in bindings = flat_map (λ binding. option_to_list (symbol_in binding.1)) bindings

pub record Listed : Type 0 where
  pub words : List ℕ
  pub symbols : List Sym

-- the listing of bindings
abbrev pub listing_of : List (ℕ × Value) → Listed
listing_of bindings = record { words = with_list list_binding [] bindings; symbols = symbols_in bindings }

-- what is kept with the bindings of a region is their listing
abbrev pub IsListed : finite.FinMap key_cmp Value → Option Listed → Type 0
IsListed direct None = Unit {0}
IsListed direct (Some listing) = listing ≡ listing_of (by_number (finite.entries direct))
