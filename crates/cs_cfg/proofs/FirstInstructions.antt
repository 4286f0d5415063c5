-- What comes first at a number in a block: for `Code::instruction_at`.
use Rattle.std.proofs.Common.{◌≡◌, ℕ, zero, suc, ◌+◌, ◌<◌, List, [], ◌∷◌, length, map, Some, None, Bor, arith, refl, sym, ap, ◌∙◌}
use Rattle.std.specs.Prelude.{option_map, slice_get}
use Rattle.std.specs.Slice.{IsItemAt}
use Rattle.std.proofs.lemmas.List.{length-map}
use Rattle.std.proofs.lemmas.Option.{slice_get-get_or, slice_get-map}
use Rattle.cs_cfg.specs.declared.operation.Operation as o
use Rattle.cs_cfg.specs.Graph.{Operation, BlockEnd, Point, before, no_point}
use Rattle.cs_cfg.specs.GraphView.{operation}
use Rattle.cs_cfg.specs.Spots.{point_in_or}

-- an operation, and what remains after it
inside : (operations : List Operation) (end : BlockEnd) (number : ℕ) (one : Operation) → slice_get operations number ≡ Some one →
    point_in_or (record { operations = operations; end = end }) number
    ≡ before one (point_in_or (record { operations = operations; end = end }) (number + 1))
inside [] end number one e = cc
inside (first ∷ operations) end zero one e =
    let same : first ≡ one = cc in
    ap (λ (it : Operation). record { operations = it ∷ operations; end = end }) same
inside (first ∷ operations) end (suc number) one e =
    let next : suc number + 1 ≡ suc (number + 1) = omega arith in
    inside operations end number one e
    ∙ ap (λ n. before one (point_in_or (record { operations = first ∷ operations; end = end }) n)) (sym next)

-- the end, after all of them
at_end : (operations : List Operation) (end : BlockEnd) (number : ℕ) → number ≡ length operations →
    point_in_or (record { operations = operations; end = end }) number ≡ record { operations = []; end = end }
at_end [] end zero e = refl
at_end [] end (suc number) e = absurd (omega arith)
at_end (first ∷ operations) end zero e = absurd (omega arith)
at_end (first ∷ operations) end (suc number) e = at_end operations end number (omega arith)

-- nothing after the end
past : (operations : List Operation) (end : BlockEnd) (number : ℕ) → length operations < number →
    point_in_or (record { operations = operations; end = end }) number ≡ no_point
past [] end zero l = absurd (omega arith)
past [] end (suc number) l = refl
past (first ∷ operations) end zero l = absurd (omega arith)
past (first ∷ operations) end (suc number) l = past operations end number (omega arith)

module _ (operations : List o.Operation) (end : BlockEnd) (number : ℕ) where
  -- the same for borrowed operations
  abbrev seen : Point
  seen = record { operations = map operation operations; end = end }

  pub first_inside : (one : Bor o.Operation) → IsItemAt operations number (Some one)
      → point_in_or seen number ≡ before (operation one.now) (point_in_or seen (number + 1))
  first_inside one is =
      let found = is.3 in
      let there : slice_get operations number ≡ Some one.now = slice_get-get_or operations number one.now found.0 ∙ ap Some (sym (found.1 one.now)) in
      inside (map operation operations) end number (operation one.now) (slice_get-map operation operations number ∙ ap (option_map operation) there)

  pub first_at_end : number ≡ length operations → point_in_or seen number ≡ record { operations = []; end = end }
  first_at_end e = at_end (map operation operations) end number (e ∙ sym (length-map operations operation))

  pub first_past : IsItemAt operations number None → (number ≡ length operations → ⊥) → point_in_or seen number ≡ no_point
  first_past is differs =
      let past_it = is.3 in
      let same = length-map operations operation in
      past (map operation operations) end number (omega arith)
