use Rattle.std.proofs.Common.{rules, ◌≡◌, ◌+ℤ◌, Some, refl, ◌∙◌, arith, to_z, of_z, FitsSigned}
use Rattle.std.specs.Int.{w128}
use Rattle.std.proofs.lemmas.Int.{ints, to_z-of_z}
use Rattle.cs_ranges.specs.Affine.{affine}
use Rattle.cs_ranges.specs.Interval.{IsInside}
use Rattle.cs_terms.specs.declared.symbol.Sym.{Sym}
use Rattle.cs_terms.specs.declared.term.Lin.{Lin}
use Rattle.cs_terms.specs.Conditions.{FitTogether, CanAdd}
use Rattle.cs_terms.proofs.Values.{affine-add}
use Rattle.cs_terms.proofs.arithmetic.add_over_one.Goals as goal

-- terms over one symbol fit together
together : (l r : Lin) (s : Sym) → l.sym ≡ Some s → r.sym ≡ Some s → CanAdd l r → FitTogether l r
together l r s e f room = room.over_one (rw (e, f) refl)

there : (l r : Lin) (s : Sym) → l.sym ≡ Some s → r.sym ≡ Some s → CanAdd l r → IsInside (affine r.slope r.at r.value l.at)
there l r s e f room = rw f at (together l r s e f room).right_there

sum_there : (l r : Lin) (s : Sym) → l.sym ≡ Some s → r.sym ≡ Some s → CanAdd l r → IsInside (l.value +ℤ affine r.slope r.at r.value l.at)
sum_there l r s e f room = rw f at (together l r s e f room).sum_at_left

pub affine_value-right_there-requires : goal.affine_value-right_there-requires
affine_value-right_there-requires c =
    let l = c.args.left in
    let r = c.args.right in
    let slope : to_z w128 (of_z w128 r.slope) ≡ r.slope = search rules in
    let at : to_z w128 (of_z w128 r.at) ≡ r.at = search rules in
    let value : to_z w128 (of_z w128 r.value) ≡ r.value = search rules in
    let from : to_z w128 (of_z w128 l.at) ≡ l.at = search rules in
    rw (slope, at, value, from) (there l r c.args.sym c.requires.left c.requires.right c.requires.room)

pub overflow_add-left-2 : goal.overflow_add-left-2
overflow_add-left-2 c =
    let l = c.args.left in
    let r = c.args.right in
    let value : to_z w128 (of_z w128 l.value) ≡ l.value = search rules in
    let right : to_z w128 (of_z w128 c.affine_value-right_there.result) ≡ affine r.slope r.at r.value l.at = search rules in
    let sum : IsInside (l.value +ℤ affine r.slope r.at r.value l.at) = sum_there l r c.args.sym c.requires.left c.requires.right c.requires.room in
    rw (value, right) (omega (arith, ints, sum))

pub returns-clause-value : goal.returns-clause-value
returns-clause-value c =
    let l = c.args.left in
    let r = c.args.right in
    let s = c.args.sym in
    let slope : to_z w128 (of_z w128 l.slope) ≡ l.slope = search rules in
    let slope' : to_z w128 (of_z w128 r.slope) ≡ r.slope = search rules in
    let slopes : FitsSigned w128 (l.slope +ℤ r.slope) = omega (arith, ints, c.requires.room.slopes) in
    let at : to_z w128 (of_z w128 l.at) ≡ l.at = search rules in
    let value : to_z w128 (of_z w128 l.value) ≡ l.value = search rules in
    let right : to_z w128 (of_z w128 c.affine_value-right_there.result) ≡ affine r.slope r.at r.value l.at = search rules in
    let sum : IsInside (l.value +ℤ affine r.slope r.at r.value l.at) = sum_there l r s c.requires.left c.requires.right c.requires.room in
    let fits : FitsSigned w128 (l.value +ℤ affine r.slope r.at r.value l.at) = omega (arith, ints, sum) in
    λ v.
    rw (c.requires.left, c.requires.right)
    (rw (slope, slope', to_z-of_z w128 _ slopes, at, value, right, to_z-of_z w128 _ fits) at (c.affine.ensures.value v)
    ∙ affine-add l.slope r.slope l.at l.value r.at r.value (v s.0))

pub returns-clause-symbol : goal.returns-clause-symbol
returns-clause-symbol c = λ s e. c.requires.left ∙ c.affine.ensures.symbol s e
