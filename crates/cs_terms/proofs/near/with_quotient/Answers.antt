use Rattle.std.proofs.Common.{rules, ◌≡◌, pos, refl, to_z, of_z}
use Rattle.std.specs.Int.{w128}
use Rattle.std.proofs.lemmas.Int.{to_z-of_z}
use Rattle.cs_ranges.specs.Interval.{in_interval}
use Rattle.cs_types.specs.IntType.{least_of, modulus_of}
use Rattle.cs_terms.proofs.TypeRanges.{room, quotient_test, ends_narrow}
use Rattle.cs_terms.proofs.near.with_quotient.Goals as goal

pub overflow_add-result : goal.overflow_add-result
overflow_add-result c =
    let least : to_z w128 (of_z w128 c.least_of_type-least.result) ≡ least_of c.args.model c.args.ty = search rules in
    let m : to_z w128 (of_z w128 c.modulus-modulus.result) ≡ pos (modulus_of c.args.model c.args.ty) = search rules in
    let q : to_z w128 (of_z w128 c.args.number) ≡ c.args.number = search rules in
    let fits = room c.args.model c.args.ty c.args.number c.requires in
    rw (least, m, q, to_z-of_z w128 _ fits.turn, to_z-of_z w128 _ fits.low_end) fits.next

pub overflow_sub-result : goal.overflow_sub-result
overflow_sub-result c =
    let least : to_z w128 (of_z w128 c.least_of_type-least.result) ≡ least_of c.args.model c.args.ty = search rules in
    let m : to_z w128 (of_z w128 c.modulus-modulus.result) ≡ pos (modulus_of c.args.model c.args.ty) = search rules in
    let q : to_z w128 (of_z w128 c.args.number) ≡ c.args.number = search rules in
    let fits = room c.args.model c.args.ty c.args.number c.requires in
    rw (least, m, q, to_z-of_z w128 _ fits.turn, to_z-of_z w128 _ fits.low_end, to_z-of_z w128 _ fits.next) fits.high_end

pub returns-clause-numbers : goal.returns-clause-numbers
unfolding in_interval
returns-clause-numbers c =
    let least : to_z w128 (of_z w128 c.least_of_type-least.result) ≡ least_of c.args.model c.args.ty = search rules in
    let m : to_z w128 (of_z w128 c.modulus-modulus.result) ≡ pos (modulus_of c.args.model c.args.ty) = search rules in
    let q : to_z w128 (of_z w128 c.args.number) ≡ c.args.number = search rules in
    let fits = room c.args.model c.args.ty c.args.number c.requires in
    rw (least, m, q, to_z-of_z w128 _ fits.turn, to_z-of_z w128 _ fits.low_end, to_z-of_z w128 _ fits.next, to_z-of_z w128 _ fits.high_end)
    (λ x. quotient_test c.args.model c.args.ty c.args.number x _ _ refl refl)

pub returns-clause-narrow : goal.returns-clause-narrow
returns-clause-narrow c =
    let least : to_z w128 (of_z w128 c.least_of_type-least.result) ≡ least_of c.args.model c.args.ty = search rules in
    let m : to_z w128 (of_z w128 c.modulus-modulus.result) ≡ pos (modulus_of c.args.model c.args.ty) = search rules in
    let q : to_z w128 (of_z w128 c.args.number) ≡ c.args.number = search rules in
    let fits = room c.args.model c.args.ty c.args.number c.requires in
    rw (least, m, q, to_z-of_z w128 _ fits.turn, to_z-of_z w128 _ fits.low_end, to_z-of_z w128 _ fits.next, to_z-of_z w128 _ fits.high_end)
    (ends_narrow c.args.model c.args.ty c.args.number _ _ c.requires refl refl)
