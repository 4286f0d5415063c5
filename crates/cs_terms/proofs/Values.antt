-- Values of terms under a valuation: for the contracts of `add`, `scale` and `diff`.
use Rattle.std.proofs.Common.{◌≡◌, ℕ, ℤ, pos, negsuc, zero, suc, neg_ℤ, ◌+ℤ◌, ◌-ℤ◌, ◌*ℤ◌, Option, Some, None, refl, sym, ap}
use Rattle.std.proofs.Common.{◌∙◌, arith}
use Rattle.std.proofs.lemmas.Int.{ints}
use Rattle.std.proofs.Math.IntN.{*ℤ-zero, zero-*ℤ, *ℤ-negsuc}
use Rattle.cs_ranges.specs.Affine.{affine}
use Rattle.cs_ranges.proofs.AffineLaws.{*ℤ-distrib, neg_ℤ-*ℤ, affine-affine, affine-neg_ℤ}
use Rattle.cs_types.proofs.FloorDivision.{add-*ℤ}
use Rattle.cs_terms.specs.declared.symbol.Sym.{Sym}
use Rattle.cs_terms.specs.Term.{Valuation, value_with}

*ℤ-pos_one : (a : ℤ) → a *ℤ pos 1 ≡ a
*ℤ-pos_one (pos n) = omega (arith, ints)
*ℤ-pos_one (negsuc n) = omega (arith, ints)

swap_pos : (a b : ℤ) (c : ℕ) → (a *ℤ b) *ℤ pos c ≡ (a *ℤ pos c) *ℤ b
swap_pos a b zero = *ℤ-zero (a *ℤ b) ∙ sym (zero-*ℤ b) ∙ sym (ap (λ n. n *ℤ b) (*ℤ-zero a))
swap_pos a b (suc c) =
    let one : pos (suc c) ≡ pos c +ℤ pos 1 = omega (arith, ints) in
    let left = ap (λ n. (a *ℤ b) *ℤ n) one ∙ *ℤ-distrib (a *ℤ b) (pos c) (pos 1)
    ∙ ap (λ n. (a *ℤ b) *ℤ pos c +ℤ n) (*ℤ-pos_one (a *ℤ b)) in
    let right = ap (λ n. n *ℤ b) (ap (λ n. a *ℤ n) one ∙ *ℤ-distrib a (pos c) (pos 1) ∙ ap (λ n. a *ℤ pos c +ℤ n) (*ℤ-pos_one a))
    ∙ add-*ℤ (a *ℤ pos c) a b in
    left ∙ ap (λ n. n +ℤ a *ℤ b) (swap_pos a b c) ∙ sym right

-- a product of three numbers, with the last two exchanged
pub *ℤ-swap : (a b c : ℤ) → (a *ℤ b) *ℤ c ≡ (a *ℤ c) *ℤ b
*ℤ-swap a b (pos c) = swap_pos a b c
*ℤ-swap a b (negsuc c) =
    *ℤ-negsuc (a *ℤ b) c
    ∙ ap neg_ℤ (swap_pos a b (suc c))
    ∙ sym (neg_ℤ-*ℤ (a *ℤ pos (suc c)) b)
    ∙ sym (ap (λ n. n *ℤ b) (*ℤ-negsuc a c))

-- a constant added to a term
pub value_with-add : (v : Valuation) (symbol : Option Sym) (slope at value more : ℤ)
    → value_with v symbol slope at (value +ℤ more) ≡ value_with v symbol slope at value +ℤ more
value_with-add v None slope at value more = refl
value_with-add v (Some s) slope at value more = omega (arith, ints)

-- a term added to a constant
pub value_with-add_left : (v : Valuation) (symbol : Option Sym) (slope at value more : ℤ)
    → value_with v symbol slope at (more +ℤ value) ≡ more +ℤ value_with v symbol slope at value
value_with-add_left v None slope at value more = refl
value_with-add_left v (Some s) slope at value more = omega (arith, ints)

-- both parts of a term times a factor
pub value_with-scale : (v : Valuation) (symbol : Option Sym) (slope at value factor : ℤ)
    → value_with v symbol (slope *ℤ factor) at (value *ℤ factor) ≡ value_with v symbol slope at value *ℤ factor
value_with-scale v None slope at value factor = refl
value_with-scale v (Some s) slope at value factor =
    ap (λ n. value *ℤ factor +ℤ n) (*ℤ-swap slope factor (v s.0 -ℤ at)) ∙ sym (add-*ℤ value (slope *ℤ (v s.0 -ℤ at)) factor)

-- the negatives of both parts
pub value_with-neg_ℤ : (v : Valuation) (symbol : Option Sym) (slope at value : ℤ)
    → value_with v symbol (neg_ℤ slope) at (neg_ℤ value) ≡ neg_ℤ (value_with v symbol slope at value)
value_with-neg_ℤ v None slope at value = refl
value_with-neg_ℤ v (Some s) slope at value = affine-neg_ℤ slope at value (v s.0)

-- the sum of two affine functions of the same number, given at the number of the first one
pub affine-add : (k l at value at' value' s : ℤ)
    → affine (k +ℤ l) at (value +ℤ affine l at' value' at) s ≡ affine k at value s +ℤ affine l at' value' s
affine-add k l at value at' value' s =
    omega (arith, ints, add-*ℤ k l (s -ℤ at), affine-affine l at' value' at s)
