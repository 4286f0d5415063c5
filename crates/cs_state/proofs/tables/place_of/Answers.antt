use Rattle.std.proofs.Common.{◌≡◌, sym, ap, ◌∙◌, map, length, subst, arith, ◌≤◌}
use Rattle.std.specs.Prelude.{Some}
use Rattle.std.proofs.lemmas.List.{length-map}
use Rattle.cs_types.specs.Shape.{shape_of}
use Rattle.cs_types.specs.ShapeEquality.{same_shape-true}
use Rattle.cs_state.proofs.Places.{mapped_at, not_contained, none_further}
use Rattle.cs_state.proofs.tables.place_of.Goals as goal

pub returns-then-eq : goal.returns-then-eq
returns-then-eq c =
    mapped_at shape_of c.args.types.now c.loop-place.place c.index-types-place.result c.loop-place-test.true
    ∙ ap (λ t. Some (shape_of t)) (sym c.index-types-place.is)
    ∙ ap Some (same_shape-true _ _ (sym c.eq.ensures ∙ c.if-eq.true))

pub loop-place-preserved : goal.loop-place-preserved
loop-place-preserved c =
    none_further (map shape_of c.args.types.now) (shape_of c.args.ty.now) (shape_of c.index-types-place.result) c.loop-place.place
    c.loop-place.invariant
    (mapped_at shape_of c.args.types.now c.loop-place.place c.index-types-place.result c.loop-place-test.true
    ∙ ap (λ t. Some (shape_of t)) (sym c.index-types-place.is))
    (sym c.eq.ensures ∙ c.if-eq.false)

pub returns : goal.returns
returns c =
    not_contained (map shape_of c.args.types.now) (shape_of c.args.ty.now) c.loop-place.place
    (omega (arith, length-map c.args.types.now shape_of, c.loop-place-test.false)) c.loop-place.invariant
