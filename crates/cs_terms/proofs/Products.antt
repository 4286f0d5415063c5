-- The wrapped product of a term as a function of its symbol: for the contract of `product_pieces`.
use Rattle.std.proofs.Common.{◌≡◌, ◌≢◌, true, ℕ, zero, suc, ◌-◌, ◌<◌, ◌≤◌, ◌^◌, ℤ, pos, negsuc, ◌+ℤ◌, ◌-ℤ◌}
use Rattle.std.proofs.Common.{◌*ℤ◌, ◌≤ℤ◌, unsigned_abs, List, Option, Some, None, refl, sym, ap, subst, ◌∙◌, arith, FitsSigned}
use Rattle.std.specs.Prelude.{MatchOption}
use Rattle.std.specs.Int.{w128}
use Rattle.std.proofs.lemmas.Bool.{false≢true}
use Rattle.std.proofs.lemmas.Int.{ints}
use Rattle.std.proofs.Math.IntN.{*ℤ-zero}
use Rattle.cs_ranges.specs.declared.range_set.Interval.{Interval}
use Rattle.cs_ranges.specs.Affine.{affine}
use Rattle.cs_ranges.specs.RangeSet.{contains, HasTwo, IsOnly, IsEmpty}
use Rattle.cs_ranges.proofs.AffineLaws.{affine-affine}
use Rattle.cs_types.specs.declared.data_model.DataModel.{DataModel}
use Rattle.cs_types.specs.declared.int_type.IntType.{IntType}
use Rattle.cs_types.specs.IntType.{modulus_of, negatives_of}
use Rattle.cs_types.specs.Wrap.{wrap_quotient, wrapped}
use Rattle.cs_types.proofs.FloorDivision.{add-*ℤ}
use Rattle.cs_types.proofs.Wrapping.{negatives-below, wrapped-InRange}
use Rattle.cs_terms.specs.declared.product.Piece.{Piece}
use Rattle.cs_terms.specs.declared.term.Lin.{Lin}
use Rattle.cs_terms.specs.Pieces.{IsPiece, IsProductOn, IsProductPiece, HasOneQuotient, product_quotient_of}
use Rattle.cs_terms.specs.Term.{value_at, IsTerm}
use Rattle.cs_terms.proofs.Cutting.{value_at-affine}
use Rattle.cs_terms.proofs.TypeRanges.{modulus-small}
use Rattle.cs_terms.proofs.Values.{*ℤ-swap}

-- the product at one number, from that at another one
pub product-moves : (term : Lin) (factor x y : ℤ) → IsTerm term
    → value_at term x *ℤ factor ≡ value_at term y *ℤ factor +ℤ (term.slope *ℤ factor) *ℤ (x -ℤ y)
product-moves term factor x y h =
    let there = value_at-affine term x h in
    let here = value_at-affine term y h in
    let value = there ∙ sym (affine-affine term.slope term.at term.value y x) ∙ ap (λ n. n +ℤ term.slope *ℤ (x -ℤ y)) (sym here) in
    ap (λ n. n *ℤ factor) value
    ∙ add-*ℤ (value_at term y) (term.slope *ℤ (x -ℤ y)) factor
    ∙ ap (λ n. value_at term y *ℤ factor +ℤ n) (*ℤ-swap term.slope (x -ℤ y) factor)

-- while the quotient is the same, the wrapped number changes as the number does
pub wrapped-moves : (model : DataModel) (ty : IntType) (z z' d : ℤ) → wrap_quotient model ty z ≡ wrap_quotient model ty z' → z ≡ z' +ℤ d
    → wrapped model ty z ≡ wrapped model ty z' +ℤ d
wrapped-moves model ty z z' d q e =
    let taken = ap (λ n. n *ℤ pos (modulus_of model ty)) q in
    moved z z' d _ _ taken e
  where
    moved : (z z' d taken taken' : ℤ) → taken ≡ taken' → z ≡ z' +ℤ d → z -ℤ taken ≡ (z' -ℤ taken') +ℤ d
    moved z z' d taken taken' t e = omega (arith, ints)

-- a factor isn't larger than a nonzero product
pub abs-product : (p d : ℤ) → d ≢ pos 0 → unsigned_abs p ≤ unsigned_abs (p *ℤ d)
abs-product p (pos zero) h = absurd (h refl)
abs-product (pos a) (pos (suc n)) h = omega (arith, ints)
abs-product (pos a) (negsuc n) h = omega (arith, ints)
abs-product (negsuc a) (pos (suc n)) h = omega (arith, ints)
abs-product (negsuc a) (negsuc n) h = omega (arith, ints)

-- between two numbers with one quotient, the product's slope is at most the number of the type's values
slope-fits : (model : DataModel) (ty : IntType) (z z' p d : ℤ) → d ≢ pos 0 → wrap_quotient model ty z ≡ wrap_quotient model ty z'
    → z ≡ z' +ℤ p *ℤ d → FitsSigned w128 p
slope-fits model ty z z' p d h q e =
    let rise = wrapped-moves model ty z z' (p *ℤ d) q e in
    let first = wrapped-InRange model ty z in
    let second = wrapped-InRange model ty z' in
    small (wrapped model ty z) (wrapped model ty z') (p *ℤ d) p (negatives_of model ty) (modulus_of model ty) (modulus-small model ty)
    (negatives-below model ty) first.from_least first.to_greatest second.from_least second.to_greatest rise (abs-product p d h)
  where
    small : (w w' rise p : ℤ) (b m : ℕ) → m ≤ 2 ^ 64 → b < m → (pos 0 -ℤ pos b) ≤ℤ w → w ≤ℤ pos (m - b - 1)
        → (pos 0 -ℤ pos b) ≤ℤ w' → w' ≤ℤ pos (m - b - 1) → w ≡ w' +ℤ rise → unsigned_abs p ≤ unsigned_abs rise → FitsSigned w128 p
    small w w' rise p b m k l f g f' g' e h = omega (arith, ints)

pub product_slope-fits : (model : DataModel) (ty : IntType) (term : Lin) (factor : ℤ) (range : List Interval) → IsTerm term
    → HasOneQuotient (product_quotient_of model ty term factor) range → HasTwo range → FitsSigned w128 (term.slope *ℤ factor)
product_slope-fits model ty term factor range h one two =
    let moves = product-moves term factor two.one two.another h in
    slope-fits model ty (value_at term two.one *ℤ factor) (value_at term two.another *ℤ factor) (term.slope *ℤ factor) (two.one -ℤ two.another)
    (λ e. two.differ (omega (arith, ints, e))) (one two.one two.another two.one_is_member two.another_is_member) moves

-- on a range with only one number the slope doesn't matter
pub no-rise : (range : List Interval) (only x y p : ℤ) → IsOnly range only → contains range x ≡ true → contains range y ≡ true
    → pos 0 *ℤ (x -ℤ y) ≡ p *ℤ (x -ℤ y)
no-rise range only x y p o h k =
    let left = o.alone x h in
    let right = o.alone y k in
    let none : x -ℤ y ≡ pos 0 = omega (arith, ints) in
    rw none (*ℤ-zero (pos 0) ∙ sym (*ℤ-zero p))

-- a range with one quotient, by the product on it
pub product_piece : (model : DataModel) (ty : IntType) (term : Lin) (factor q : ℤ) (range piece : List Interval) (made : Option Piece)
    → IsPiece (product_quotient_of model ty term factor) range q piece
    → MatchOption made (IsEmpty piece) (λ p. (p.range ≡ piece) × IsProductOn model ty term factor p) → IsProductPiece model ty term factor range q made
product_piece model ty term factor q range piece None is empty = λ x t e. false≢true (sym (empty x) ∙ (is x).1 (t, e))
product_piece model ty term factor q range piece (Some p) is made = (subst (IsPiece (product_quotient_of model ty term factor) range q) (sym made.0) is, made.1)

-- a term over the piece with the product's slope and its value at one number has the wrapped product's value
pub product-value : (model : DataModel) (ty : IntType) (term : Lin) (factor slope number at x : ℤ) → IsTerm term
    → number ≡ wrapped model ty (value_at term at *ℤ factor)
    → product_quotient_of model ty term factor x ≡ product_quotient_of model ty term factor at
    → slope *ℤ (x -ℤ at) ≡ (term.slope *ℤ factor) *ℤ (x -ℤ at) → affine slope at number x ≡ wrapped model ty (value_at term x *ℤ factor)
product-value model ty term factor slope number at x h e q s =
    let moves = product-moves term factor x at h in
    ap (λ n. n +ℤ slope *ℤ (x -ℤ at)) e
    ∙ ap (λ n. wrapped model ty (value_at term at *ℤ factor) +ℤ n) s
    ∙ sym (wrapped-moves model ty (value_at term x *ℤ factor) (value_at term at *ℤ factor) ((term.slope *ℤ factor) *ℤ (x -ℤ at)) q moves)
