-- Terms with equal live parts have the same value, under valuations that agree on their symbols: for states with equal live parts.
use Rattle.std.proofs.Common.{◌≡◌, ℕ, ℤ, Option, None, Some, refl, sym, ap, ◌∙◌}
use Rattle.std.specs.Prelude.{option_map}
use Rattle.std.proofs.lemmas.Option.{same_Some}
use Rattle.cs_terms.specs.declared.symbol.Sym.{Sym}
use Rattle.cs_terms.specs.declared.term.Lin.{Lin}
use Rattle.cs_terms.specs.Term.{Valuation, value_with, value_of}
use Rattle.cs_constraints.specs.Constraints.{Sets, set_of}
use Rattle.cs_keys.specs.Live.{LiveSymbol, live_symbol, live_term}
use Rattle.cs_keys.proofs.Lines.{same_values}

module _ (sets others : Sets) (valuation other : Valuation)
    (agrees : (symbol : ℕ) → set_of sets symbol ≡ set_of others symbol → other symbol ≡ valuation symbol) where
  -- symbols with equal live parts have the same number
  pub same_symbol : (s t : Sym) → live_symbol sets s ≡ live_symbol others t → valuation s.0 ≡ other t.0
  same_symbol s t same =
      let numbers : s.0 ≡ t.0 = ap (λ (l : LiveSymbol). l.number) same in
      let found : set_of sets s.0 ≡ set_of others t.0 = ap (λ (l : LiveSymbol). l.set) same in
      ap valuation numbers ∙ sym (agrees t.0 (ap (set_of sets) (sym numbers) ∙ found))

  -- a function of symbols with equal live parts has one value
  value_over : (so to : Option Sym) (slope at value : ℤ) → option_map (live_symbol sets) so ≡ option_map (live_symbol others) to
      → value_with valuation to slope at value ≡ value_with other to slope at value
  value_over so None slope at value same = refl
  value_over None (Some t) slope at value same = cc
  value_over (Some s) (Some t) slope at value same =
      let mentioned = same_Some (live_symbol sets s) (live_symbol others t) same in
      let numbers : s.0 ≡ t.0 = ap (λ (l : LiveSymbol). l.number) mentioned in
      ap (λ x. value_with (λ symbol. x) (Some t) slope at value) (ap valuation (sym numbers) ∙ same_symbol s t mentioned)

  pub same_value : (one two : Lin) → live_term sets one ≡ live_term others two → value_of valuation one ≡ value_of other two
  same_value one two same =
      let function = same_values sets others one two same in
      function.values valuation ∙ value_over one.sym two.sym two.slope two.at two.value function.symbol
