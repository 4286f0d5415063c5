-- What is touched at a number in a block: for `Code::touch`.
use Rattle.std.proofs.Common.{◌≡◌, ℕ, zero, suc, ◌-◌, ◌<◌, List, [], ◌∷◌, length, map, Some, None, Bor, arith, refl, sym, ap, ◌∙◌}
use Rattle.std.specs.Prelude.{option_map, slice_get}
use Rattle.std.specs.Slice.{IsItemAt}
use Rattle.std.proofs.lemmas.List.{length-map}
use Rattle.std.proofs.lemmas.Option.{slice_get-get_or, slice_get-map}
use Rattle.cs_cfg.specs.declared.operation.Operation as o
use Rattle.cs_cfg.specs.declared.code.Block.{Block}
use Rattle.cs_cfg.specs.declared.code.CountedPoint.{CountedPoint}
use Rattle.cs_cfg.specs.Graph.{Operation, BlockEnd}
use Rattle.cs_cfg.specs.GraphView.{operation, with_counted_point, block, block_end}
use Rattle.cs_cfg.specs.Touching.{touch_of, touch_of_end, touch_in}

-- one of its operations
inside : (operations : List Operation) (end : BlockEnd) (number : ℕ) {one : Operation} → slice_get operations number ≡ Some one →
    touch_in (record { operations = operations; end = end }) number ≡ touch_of one
inside [] end number e = cc
inside (first ∷ operations) end zero e = cc
inside (first ∷ operations) end (suc number) e = inside operations end number e

-- its end, after all of them
following : (operations : List Operation) (end : BlockEnd) (number : ℕ) → number ≡ length operations →
    touch_in (record { operations = operations; end = end }) number ≡ touch_of_end end
following [] end zero e = refl
following [] end (suc number) e = absurd (omega arith)
following (first ∷ operations) end zero e = absurd (omega arith)
following (first ∷ operations) end (suc number) e = following operations end number (omega arith)

-- nothing after the end
nowhere : (operations : List Operation) (end : BlockEnd) (number : ℕ) → length operations < number →
    touch_in (record { operations = operations; end = end }) number ≡ None
nowhere [] end zero l = absurd (omega arith)
nowhere [] end (suc number) l = refl
nowhere (first ∷ operations) end zero l = absurd (omega arith)
nowhere (first ∷ operations) end (suc number) l = nowhere operations end number (omega arith)

module _ (operations : List o.Operation) (end : BlockEnd) (number : ℕ) where
  -- the same for borrowed operations
  pub reported_inside : (one : Bor o.Operation) → IsItemAt operations number (Some one) →
      touch_of (operation one.now) ≡ touch_in (record { operations = map operation operations; end = end }) number
  reported_inside one is =
      let found = is.3 in
      let there : slice_get operations number ≡ Some one.now = slice_get-get_or operations number one.now found.0 ∙ ap Some (sym (found.1 one.now)) in
      sym (inside (map operation operations) end number (slice_get-map operation operations number ∙ ap (option_map operation) there))

  pub reported_after : number ≡ length operations → touch_of_end end ≡ touch_in (record { operations = map operation operations; end = end }) number
  reported_after e = sym (following (map operation operations) end number (e ∙ sym (length-map operations operation)))

  pub reported_nowhere : IsItemAt operations number None → (number ≡ length operations → ⊥)
      → None ≡ touch_in (record { operations = map operation operations; end = end }) number
  reported_nowhere is differs =
      let past = is.3 in
      let same = length-map operations operation in
      sym (nowhere (map operation operations) end number (omega arith))

-- a counted point comes first in a block
reported_after_counted_point : (operations : List o.Operation) (end : BlockEnd) (counted_point : CountedPoint) (number : ℕ) → (number ≡ 0 → ⊥) →
    touch_in (record { operations = map operation operations; end = end }) (number - 1)
    ≡ touch_in (record { operations = with_counted_point (Some counted_point) (map operation operations); end = end }) number
reported_after_counted_point operations end counted_point zero above = absurd (above refl)
reported_after_counted_point operations end counted_point (suc number) above =
    let less : suc number - 1 ≡ number = omega arith in
    ap (touch_in (record { operations = map operation operations; end = end })) less

pub reported_with_counted_point : (one : Block) (counted_point : CountedPoint) (operations : List o.Operation) (number : ℕ)
    → one.counted_point ≡ Some counted_point → operations ≡ one.operations.items → (number ≡ 0 → ⊥) →
    touch_in (record { operations = map operation operations; end = block_end one.end }) (number - 1) ≡ touch_in (block one) number
reported_with_counted_point one counted_point operations number counted_points same above =
    ap (λ all. touch_in (record { operations = map operation all; end = block_end one.end }) (number - 1)) same
    ∙ reported_after_counted_point one.operations.items (block_end one.end) counted_point number above
    ∙ ap (λ m. touch_in (record { operations = with_counted_point m (map operation one.operations.items); end = block_end one.end }) number)
    (sym counted_points)
