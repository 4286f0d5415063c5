-- Bindings are listed one after the other: for the loop of `list`. A term is listed with its value at 0 if this can be computed: for `put_term`.
use Rattle.std.proofs.Common.{◌≡◌, ℕ, ℤ, suc, ◌+◌, Bool, true, false, List, [], ◌∷◌, ◌++◌, length, sym, ap, ◌∙◌, subst, arith, add-zero}
use Rattle.std.proofs.Common.{append_assoc, refl}
use Rattle.std.specs.Bool.{then_some}
use Rattle.std.specs.Prelude.{fold, Some}
use Rattle.std.specs.Option.{option_to_list}
use Rattle.std.proofs.lemmas.List.{append-nil}
use Rattle.std.proofs.lemmas.Option.{none-some, same_Some}
use Rattle.cs_word_lists.specs.Written.{with_word}
use Rattle.cs_terms.specs.declared.symbol.Sym.{Sym}
use Rattle.cs_store.specs.declared.value.Value.{Value}
use Rattle.cs_store.specs.Listings.{list_binding, symbol_in, symbols_in, listing_of}

-- a number that exists
pub is_there : (there : Bool) (given found : ℤ) → Some found ≡ then_some there given → (there ≡ true) × (found ≡ given)
is_there true given found e = (refl, same_Some found given e)
is_there false given found e = absurd (none-some found (sym e))

abbrev Entry : Type 0
Entry = ℕ × Value

-- the entries that are listed and those that remain are all bindings
pub record IsPartlyListed (all : List Entry) (words : List ℕ) (symbols : List Sym) (count : ℕ) (left : List Entry) : Type 0 where
  pub written : fold list_binding words left ≡ fold list_binding [] all
  pub mentioned : symbols ++ symbols_in left ≡ symbols_in all
  pub counted : count + length left ≡ length all

pub none_listed : (all : List Entry) (words : List ℕ) (symbols : List Sym) (left : List Entry) → words ≡ [] → symbols ≡ [] → left ≡ all
    → IsPartlyListed all words symbols 0 left
none_listed all words symbols left empty none same = record {
  written = λ i. fold list_binding (empty i) (same i);
  mentioned = λ i. none i ++ symbols_in (same i);
  counted = omega (arith, ap length same);
}

pub one_more_listed : (all left rest : List Entry) (binding : Entry) (words : List ℕ) (symbols : List Sym) (count more : ℕ)
    → left ≡ binding ∷ rest → more ≡ count + 1 → IsPartlyListed all words symbols count left
    → IsPartlyListed all (list_binding words binding) (symbols ++ option_to_list (symbol_in binding.1)) more rest
one_more_listed all left rest binding words symbols count more is counted before =
    let total : count + suc (length rest) ≡ length all = subst (λ left. count + length left ≡ length all) is before.counted in
    record {
      written = ap (λ left. fold list_binding words left) (sym is) ∙ before.written;
      mentioned =
          append_assoc symbols (option_to_list (symbol_in binding.1)) (symbols_in rest) ∙ ap (λ left. symbols ++ symbols_in left) (sym is)
          ∙ before.mentioned;
      counted = omega arith;
    }

pub all_listed : (all left : List Entry) (words : List ℕ) (symbols : List Sym) (count : ℕ) → left ≡ []
    → IsPartlyListed all words symbols count left → record { words = with_word words count; symbols = symbols } ≡ listing_of all
all_listed all left words symbols count none before =
    let written : words ≡ fold list_binding [] all = sym (ap (λ left. fold list_binding words left) none) ∙ before.written in
    let counted : count ≡ length all = sym (add-zero count) ∙ sym (ap (λ left. count + length left) none) ∙ before.counted in
    let mentioned : symbols ≡ symbols_in all =
    sym (append-nil symbols) ∙ sym (ap (λ left. symbols ++ symbols_in left) none) ∙ before.mentioned in
    λ i. record { words = with_word (written i) (counted i); symbols = mentioned i }
