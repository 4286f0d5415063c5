-- A range that is split by intervals is split by quotients: for the contracts of `wrap_pieces` and `product_pieces`.
use Rattle.std.proofs.Common.{◌≡◌, ◌↔◌, Bool, true, false, ◌&&◌, not, ℤ, pos, negsuc, ◌*ℤ◌, List, Option, Some, None, refl, sym, ap}
use Rattle.std.proofs.Common.{subst, ◌∙◌, arith}
use Rattle.std.specs.Prelude.{IsTrue, IsNone}
use Rattle.std.proofs.lemmas.Bool.{false≢true}
use Rattle.std.proofs.lemmas.Int.{ints}
use Rattle.std.proofs.Math.IntN.{zero-*ℤ}
use Rattle.cs_ranges.specs.declared.range_set.Interval.{Interval}
use Rattle.cs_ranges.specs.Affine.{affine}
use Rattle.cs_ranges.specs.Interval.{in_interval, IsInside}
use Rattle.cs_ranges.specs.RangeSet.{contains}
use Rattle.cs_types.specs.declared.data_model.DataModel.{DataModel}
use Rattle.cs_types.specs.declared.int_type.IntType.{IntType}
use Rattle.cs_types.specs.IntType.{IsIntegerOfC}
use Rattle.cs_types.specs.Wrap.{wrap_quotient}
use Rattle.cs_terms.specs.declared.near.Near.{Near}
use Rattle.cs_terms.specs.declared.pieces.Pieces.{Pieces}
use Rattle.cs_terms.specs.declared.symbol.Sym.{Sym}
use Rattle.cs_terms.specs.declared.term.Lin.{Lin}
use Rattle.cs_terms.specs.Near.{IsCut, IsAtValues, HasCofactors, HasQuotient, HaveQuotients}
use Rattle.cs_terms.specs.Pieces.{Quotients, IsPiece, IsFarPiece, ArePieces, HasOneQuotient, product_quotient_of}
use Rattle.cs_terms.specs.Term.{value_with, value_at, IsTermWith, IsTerm}

-- a term's value is an affine function of its symbol's number
pub value_with-affine : (symbol : Option Sym) (slope at value x : ℤ) → (IsNone symbol → slope ≡ pos 0)
    → value_with (λ s. x) symbol slope at value ≡ affine slope at value x
value_with-affine None slope at value x e = rw (e refl, zero-*ℤ) (omega (arith, ints))
value_with-affine (Some s) slope at value x e = refl

-- a term with no symbol has slope 0
pub none-slope : (symbol : Option Sym) (slope : ℤ) → IsTermWith symbol slope → IsNone symbol → slope ≡ pos 0
none-slope None slope h e = h
none-slope (Some s) slope h e = absurd (cc)

pub value_at-affine : (term : Lin) (x : ℤ) → IsTerm term → value_at term x ≡ affine term.slope term.at term.value x
value_at-affine term x h = value_with-affine term.sym term.slope term.at term.value x (none-slope term.sym term.slope h)

pub affine-inside : (term : Lin) (x : ℤ) → IsTerm term → IsInside (value_at term x) → IsInside (affine term.slope term.at term.value x)
affine-inside term x h inside = subst IsInside (value_at-affine term x h) inside

-- integers of C are inside the bounds of sets
pub IsInside-from_integer : (x : ℤ) → IsIntegerOfC x → IsInside x
IsInside-from_integer x h = omega (arith, ints, h.from_least, h.to_greatest)

and-true : (a b : Bool) → (a && b) ≡ true → (a ≡ true) × (b ≡ true)
and-true true b h = (refl, h)
and-true false b h = absurd (cc)

-- for the numbers of the range, the interval decides by the term's value whether they have this quotient
pub Yields : Quotients → List Interval → Lin → ℤ → Interval → Type 0
Yields quotient range term q values = (x : ℤ) → IsTrue (contains range x) → IsTrue (in_interval values (value_at term x)) ↔ (quotient x ≡ q)

-- the numbers at which the term has such a value are those with the quotient
piece_from_values : (quotient : Quotients) (range piece : List Interval) (term : Lin) (q : ℤ) (values : Interval) → Yields quotient range term q values
    → IsAtValues term range values piece → IsPiece quotient range q piece
unfolding Yields
piece_from_values quotient range piece term q values yields at x = (
  λ t.
      let both = and-true (contains range x) (in_interval values (value_at term x)) (sym (at x) ∙ t) in
      (both.0, (yields x both.0).0 both.1),
  λ p. at x ∙ ap (λ b. b && in_interval values (value_at term x)) p.0 ∙ (yields x p.0).1 p.1,
)

far-true : (r u s p : Bool) → (((r && not u) && not s) && not p) ≡ true → (r ≡ true) × (u ≡ false) × (s ≡ false) × (p ≡ false)
far-true true false false false h = (refl, refl, refl, refl)
far-true r u s p h = absurd (cc)

false-from_not : (b : Bool) → ¬ (b ≡ true) → b ≡ false
false-from_not true h = absurd (h refl)
false-from_not false h = refl

-- a number of the range is in none of the three pieces exactly if it has another quotient
far_piece : (quotient : Quotients) (range under same past far : List Interval) → IsPiece quotient range (negsuc 0) under
    → IsPiece quotient range (pos 0) same → IsPiece quotient range (pos 1) past
    → ((x : ℤ) → contains far x ≡ (((contains range x && not (contains under x)) && not (contains same x)) && not (contains past x)))
    → IsFarPiece quotient range far
far_piece quotient range under same past far u s p rest x = (
  λ t.
      let parts = far-true (contains range x) (contains under x) (contains same x) (contains past x) (sym (rest x) ∙ t) in (
        parts.0,
        (
          λ e. false≢true (sym parts.1 ∙ (u x).1 (parts.0, e)),
          λ e. false≢true (sym parts.2 ∙ (s x).1 (parts.0, e)),
          λ e. false≢true (sym parts.3 ∙ (p x).1 (parts.0, e)),
        ),
      ),
  λ h.
      let not_under : contains under x ≡ false = false-from_not (contains under x) (λ t. h.1.0 ((u x).0 t).1) in
      let not_same : contains same x ≡ false = false-from_not (contains same x) (λ t. h.1.1 ((s x).0 t).1) in
      let not_past : contains past x ≡ false = false-from_not (contains past x) (λ t. h.1.2 ((p x).0 t).1) in
      rest x ∙ all (contains range x) (contains under x) (contains same x) (contains past x) h.0 not_under not_same not_past,
)
  where
    all : (r u s p : Bool) → r ≡ true → u ≡ false → s ≡ false → p ≡ false → (((r && not u) && not s) && not p) ≡ true
    all r u s p h k l m = rw (h, k, l, m) refl

pub pieces_from_cut : (quotient : Quotients) (near : Near) (term : Lin) (range : List Interval) (pieces : Pieces)
    → Yields quotient range term (negsuc 0) near.under → Yields quotient range term (pos 0) near.same → Yields quotient range term (pos 1) near.past
    → IsCut near term range pieces → ArePieces quotient range pieces
pieces_from_cut quotient near term range pieces u s p cut =
    let under = piece_from_values quotient range pieces.under term (negsuc 0) near.under u cut.under in
    let same = piece_from_values quotient range pieces.same term (pos 0) near.same s cut.same in
    let past = piece_from_values quotient range pieces.past term (pos 1) near.past p cut.past in
    record {
      under = under;
      same = same;
      past = past;
      far = far_piece quotient range pieces.under pieces.same pieces.past pieces.far under same past cut.far;
    }

-- an interval of numbers with a quotient bounds the term's value
pub yields_value : (quotient : ℤ → ℤ) (range : List Interval) (term : Lin) (q : ℤ) (values : Interval) → HasQuotient quotient q values
    → Yields (λ x. quotient (value_at term x)) range term q values
unfolding Yields
yields_value quotient range term q values h x t = h (value_at term x)

-- an interval of cofactors bounds the term's value times the factor
pub yields_product : (quotient : ℤ → ℤ) (range : List Interval) (term : Lin) (factor q : ℤ) (products values : Interval)
    → HasQuotient quotient q products → HasCofactors products factor values → ((x : ℤ) → IsTrue (contains range x) → IsInside (value_at term x))
    → Yields (λ x. quotient (value_at term x *ℤ factor)) range term q values
unfolding Yields
yields_product quotient range term factor q products values h cofactors inside x t =
    let same = cofactors (value_at term x) (inside x t) in
    let yields = h (value_at term x *ℤ factor) in
    (λ t'. yields.0 (sym same ∙ t'), λ e. same ∙ yields.1 e)

-- all numbers of a piece have its quotient
pub one_quotient : (quotient : Quotients) (range piece : List Interval) (q : ℤ) → IsPiece quotient range q piece → HasOneQuotient quotient piece
one_quotient quotient range piece q is x y t u = ((is x).0 t).1 ∙ sym ((is y).0 u).1

pub product_pieces_from_cut : (model : DataModel) (ty : IntType) (products near : Near) (term : Lin) (factor : ℤ) (range : List Interval) (pieces : Pieces)
    → HaveQuotients (wrap_quotient model ty) products → HasCofactors products.under factor near.under → HasCofactors products.same factor near.same
    → HasCofactors products.past factor near.past → ((x : ℤ) → IsTrue (contains range x) → IsIntegerOfC (value_at term x))
    → IsCut near term range pieces → ArePieces (product_quotient_of model ty term factor) range pieces
product_pieces_from_cut model ty products near term factor range pieces quotients u s p integers cut =
    let inside : (x : ℤ) → IsTrue (contains range x) → IsInside (value_at term x) = λ x t. IsInside-from_integer (value_at term x) (integers x t) in
    let under = yields_product (wrap_quotient model ty) range term factor _ products.under near.under quotients.under u inside in
    let same = yields_product (wrap_quotient model ty) range term factor _ products.same near.same quotients.same s inside in
    let past = yields_product (wrap_quotient model ty) range term factor _ products.past near.past quotients.past p inside in
    pieces_from_cut (product_quotient_of model ty term factor) near term range pieces under same past cut
