use Rattle.std.proofs.Common.{rules, ◌≡◌, ◌⊎◌, List, inl, inr, refl, sym, subst, ◌∙◌, to_z, of_z}
use Rattle.std.specs.Int.{w128}
use Rattle.std.proofs.lemmas.Bool.{false≢true}
use Rattle.cs_ranges.specs.declared.range_set.Interval.{Interval}
use Rattle.cs_ranges.specs.RangeSet.{IsEmpty, IsInhabited, IsLeast, HasTwo}
use Rattle.cs_terms.specs.Term.{value_at}
use Rattle.cs_terms.proofs.Cutting.{value_at-affine, affine-inside}
use Rattle.cs_terms.proofs.Narrow.{inside_same}
use Rattle.cs_constraints.proofs.prepared.prepared_over.Goals as goal

two_numbers : (s : List Interval) → IsInhabited s → IsEmpty s ⊎ HasTwo s → HasTwo s
two_numbers s some (inl none) = absurd (false≢true (sym (none some.0) ∙ some.1))
two_numbers s some (inr two) = two

pub affine_value-requires : goal.affine_value-requires
affine_value-requires c =
    let term = c.args.term in
    let only = c.in-Some.only in
    let slope : to_z w128 (of_z w128 term.slope) ≡ term.slope = search rules in
    let at : to_z w128 (of_z w128 term.at) ≡ term.at = search rules in
    let value : to_z w128 (of_z w128 term.value) ≡ term.value = search rules in
    let number : to_z w128 (of_z w128 only) ≡ only = search rules in
    rw (slope, at, value, number) (affine-inside term only c.requires.term (c.requires.values only c.in-Some.ensures.member))

pub returns-in-Some : goal.returns-in-Some
returns-in-Some c =
    let term = c.args.term in
    let only = c.in-Some.only in
    let slope : to_z w128 (of_z w128 term.slope) ≡ term.slope = search rules in
    let at : to_z w128 (of_z w128 term.at) ≡ term.at = search rules in
    let value : to_z w128 (of_z w128 term.value) ≡ term.value = search rules in
    let number : to_z w128 (of_z w128 only) ≡ only = search rules in
    let inside = c.requires.values only c.in-Some.ensures.member in
    let made = (rw (slope, at, value, number) at c.affine_value.ensures) ∙ sym (value_at-affine term only c.requires.term) in
    inl (record {
      number = only;
      only = c.in-Some.ensures;
      constant = record { symbol = refl; slope = refl; value = rw made (inside_same (value_at term only) inside) };
    })

pub returns : goal.returns
returns c =
    let least = c.in-Some-least.least in
    let number = inside_same least c.in-Some-least.ensures.inside in
    inr (record {
      two = two_numbers c.args.range.now c.requires.inhabited (rw c.in_default.is at c.is_single.ensures);
      place = subst (IsLeast c.args.range.now) (sym (c.seen_from.ensures.place ∙ number)) c.in-Some-least.ensures.least;
      function = c.seen_from.ensures.function;
    })
