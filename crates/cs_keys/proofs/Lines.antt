-- Terms with the same live part are the same function of the same symbol: for `terms_have_values`.
use Rattle.std.proofs.Common.{◌≡◌, ℤ, pos, ◌+ℤ◌, ◌-ℤ◌, ◌*ℤ◌, Bool, true, false, cond, sym, ap, ◌∙◌, refl, arith}
use Rattle.std.specs.Prelude.{Option, None, Some, option_map}
use Rattle.std.proofs.lemmas.Int.{ints}
use Rattle.cs_ranges.specs.Affine.{affine}
use Rattle.cs_ranges.proofs.AffineLaws.{*ℤ-distrib}
use Rattle.cs_terms.specs.declared.symbol.Sym.{Sym}
use Rattle.cs_terms.specs.declared.term.Lin.{Lin}
use Rattle.cs_terms.specs.Term.{Valuation, value_with}
use Rattle.cs_constraints.specs.Constraints.{Sets}
use Rattle.cs_store.specs.Listings.{origin_of, has_origin}
use Rattle.cs_keys.specs.Live.{LiveSymbol, Line, FarLine, LiveTerm, Constant, Linear, Far, live_symbol, live_line, far_line, live_over, live_term}
use Rattle.cs_keys.specs.Laws.{AreOneFunction}

-- a value as the one at 0 plus a multiple of the slope
as_sum : (slope at value x : ℤ) → affine slope at value x ≡ (value -ℤ slope *ℤ at) +ℤ slope *ℤ x
as_sum slope at value x =
    let parts : x ≡ (x -ℤ at) +ℤ at = omega (arith, ints) in
    omega (arith, ints, ap (λ d. slope *ℤ d) parts, *ℤ-distrib slope (x -ℤ at) at)

-- functions with one slope and one value at 0
pub same_line : (slope steepness at place value number x : ℤ) → slope ≡ steepness → value -ℤ slope *ℤ at ≡ number -ℤ steepness *ℤ place
    → affine slope at value x ≡ affine steepness place number x
same_line slope steepness at place value number x slopes origins =
    as_sum slope at value x ∙ (λ i. origins i +ℤ slopes i *ℤ x) ∙ sym (as_sum steepness place number x)

data Form : Type 0 where
  OfConstant : Form
  OfLine : Form
  OfFarLine : Form

abbrev form_of : LiveTerm → Form
form_of (Constant n) = OfConstant
form_of (Linear line) = OfLine
form_of (Far line) = OfFarLine

abbrev constant_in : LiveTerm → ℤ
constant_in (Constant n) = n
constant_in (Linear line) = pos 0
constant_in (Far line) = pos 0

module _ (line : Line) where
  abbrev line_in : LiveTerm → Line
  line_in (Constant n) = line
  line_in (Linear given) = given
  line_in (Far given) = line

module _ (line : FarLine) where
  abbrev far_line_in : LiveTerm → FarLine
  far_line_in (Constant n) = line
  far_line_in (Linear given) = line
  far_line_in (Far given) = given

-- what two terms over these symbols have in common
record HaveOneValue (sets others : Sets) (so to : Option Sym) (one other : Lin) : Type 0 where
  symbol : option_map (live_symbol sets) so ≡ option_map (live_symbol others) to
  values : (valuation : Valuation) → value_with valuation so one.slope one.at one.value ≡ value_with valuation to other.slope other.at other.value

module _ (sets others : Sets) (one other : Lin) where
  near : (s t : Sym) → live_line sets s one ≡ live_line others t other → HaveOneValue sets others (Some s) (Some t) one other
  near s t same =
      let symbols : live_symbol sets s ≡ live_symbol others t = ap (λ (line : Line). line.symbol) same in
      let slopes : one.slope ≡ other.slope = ap (λ (line : Line). line.slope) same in
      let origins : origin_of one ≡ origin_of other = ap (λ (line : Line). line.origin) same in
      record {
        symbol = ap (λ symbol. Some symbol) symbols;
        values =
            λ valuation.
            same_line one.slope other.slope one.at other.at one.value other.value (valuation s.0) slopes origins
            ∙ ap (λ (symbol : LiveSymbol). affine other.slope other.at other.value (valuation symbol.number)) symbols;
      }

  far : (s t : Sym) → far_line sets s one ≡ far_line others t other → HaveOneValue sets others (Some s) (Some t) one other
  far s t same = record {
    symbol = λ i. Some (same i).symbol;
    values = λ valuation i. affine (same i).slope (same i).at (same i).value (valuation (same i).symbol.number);
  }

  by_form : (s t : Sym) (is_near also_near : Bool)
      → cond is_near (Linear (live_line sets s one)) (Far (far_line sets s one))
      ≡ cond also_near (Linear (live_line others t other)) (Far (far_line others t other))
      → HaveOneValue sets others (Some s) (Some t) one other
  by_form s t true true same = near s t (ap (line_in (live_line sets s one)) same)
  by_form s t false false same = far s t (ap (far_line_in (far_line sets s one)) same)
  by_form s t true false same = absurd (let no : OfLine ≡ OfFarLine = ap form_of same in cc)
  by_form s t false true same = absurd (let no : OfFarLine ≡ OfLine = ap form_of same in cc)

  no_constant : (s : Sym) (set : Sets) (term : Lin) (n : ℤ) (is_near : Bool)
      → Constant n ≡ cond is_near (Linear (live_line set s term)) (Far (far_line set s term)) → ⊥
  no_constant s set term n true same = absurd (let no : OfConstant ≡ OfLine = ap form_of same in cc)
  no_constant s set term n false same = absurd (let no : OfConstant ≡ OfFarLine = ap form_of same in cc)

  over : (so to : Option Sym) → live_over sets so one ≡ live_over others to other → HaveOneValue sets others so to one other
  over None None same = record { symbol = refl; values = λ valuation. ap constant_in same }
  over None (Some t) same = absurd (no_constant t others other one.value (has_origin other) same)
  over (Some s) None same = absurd (no_constant s sets one other.value (has_origin one) (sym same))
  over (Some s) (Some t) same = by_form s t (has_origin one) (has_origin other) same

  pub same_values : live_term sets one ≡ live_term others other → AreOneFunction sets others one other
  same_values same = let found = over one.sym other.sym same in record { symbol = found.symbol; values = found.values }
