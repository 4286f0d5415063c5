-- The purpose of keys: they are equal exactly if live parts are, and equal live parts have terms with equal values.
use Rattle.std.specs.Prelude.{◌≡◌, ◌↔◌, option_map}
use Rattle.cs_terms.specs.declared.term.Lin.{Lin}
use Rattle.cs_terms.specs.Term.{Valuation, value_of}
use Rattle.cs_constraints.specs.Constraints.{Sets}
use Rattle.cs_state.specs.declared.state.State.{State}
use Rattle.cs_keys.specs.Live.{live_symbol, live_term, live_part}
use Rattle.cs_keys.specs.Words.{words_of}

-- the words of two states are the same exactly if their live parts are
abbrev pub KeysAreExact : Type 0
KeysAreExact = (one other : State) → (words_of (live_part one) ≡ words_of (live_part other)) ↔ (live_part one ≡ live_part other)

-- two terms are the same function of the same symbol, which may have the same numbers
pub record AreOneFunction (sets others : Sets) (one other : Lin) : Type 0 where
  pub symbol : option_map (live_symbol sets) one.sym ≡ option_map (live_symbol others) other.sym
  pub values : (valuation : Valuation) → value_of valuation one ≡ value_of valuation other

-- terms that are the same in two live parts, or twice in one, are the same function
abbrev pub TermsHaveValues : Type 0
TermsHaveValues = (sets others : Sets) (one other : Lin) → live_term sets one ≡ live_term others other → AreOneFunction sets others one other
