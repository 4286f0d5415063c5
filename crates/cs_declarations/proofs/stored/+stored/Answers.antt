use Rattle.std.proofs.Common.{rules, arith, ◌≡◌, ◌+◌, drop, Some, None, refl, sym, ap, ◌∙◌, add-one}
use Rattle.std.specs.Prelude.{slice_get}
use Rattle.cs_types.specs.Shape.{shape_of}
use Rattle.cs_scopes.specs.Scalars.{few}
use Rattle.cs_declarations.specs.Initializers.{together, list_stored}
use Rattle.cs_scopes.specs.Parts.{part_types}
use Rattle.cs_scopes.specs.Parts.{types_of}
use Rattle.cs_declarations.proofs.PartTypes.{part_is, no_part}
use Rattle.cs_declarations.proofs.WrittenLists.{item_there}
use Rattle.cs_declarations.proofs.StoredSoFar.{few_is, few_same, nothing_yet, stored-List, stored-none, stored_over, stored_end, stored_stops, stored_past}
use Rattle.cs_declarations.proofs.StoredSoFar.{stored_more}
use Rattle.cs_declarations.proofs.stored.+stored.Goals as goal

pub stored-returns-in-Some : goal.stored-returns-in-Some
stored-returns-in-Some t c =
    let parts : part_types c.args.table.now.list (shape_of c.args.ty.now) ≡ Some (types_of c.in-Some.parts) = sym c.in-Some.ensures in
    c.stored_parts.ensures ∙ ap (list_stored c.args.table.now.list (types_of c.in-Some.parts)) c.deref-in-Some.ensures.value
    ∙ sym (stored-List c.args.table.now.list (shape_of c.args.ty.now) (Some (types_of c.in-Some.parts)) c.args.written.now c.in-List.items c.in-List.field-1
    parts c.in-List.is)

pub stored-returns-in-None : goal.stored-returns-in-None
stored-returns-in-None t c =
    let parts : part_types c.args.table.now.list (shape_of c.args.ty.now) ≡ None = sym c.in-None.ensures in
    sym (stored-none c.args.table.now.list (shape_of c.args.ty.now) c.args.written.now c.in-List.items c.in-List.field-1 parts c.in-List.is)

pub stored_parts-loop-item-init : goal.stored_parts-loop-item-init
stored_parts-loop-item-init t c = record {
  same = refl;
  few = omega arith;
  so_far = nothing_yet c.args.table.now.list (types_of c.args.parts) c.args.items.now;
}

pub stored_parts-returns-in_default : goal.stored_parts-returns-in_default
stored_parts-returns-in_default t c =
    sym (stored_over c.args.table.now.list (types_of c.args.parts) c.args.items.now c.loop-item.all c.loop-item.item-index _ c.loop-item.invariant.so_far
    c.loop-item.invariant.few
    (no_part (λ t. shape_of t.now) (types_of c.args.parts) c.ty.result c.loop-item.number c.loop-item.item-index c.ty.ensures c.loop-item.invariant.same
    c.in_default.is))

pub stored_parts-returns-in_err-stored : goal.stored_parts-returns-in_err-stored
stored_parts-returns-in_err-stored t c =
    let e : c.from_residual.result ≡ None = search rules in
    let part : slice_get (types_of c.args.parts) c.loop-item.item-index ≡ Some (shape_of c.in-Some.ty.now) =
    part_is (λ t. shape_of t.now) (types_of c.args.parts) c.ty.result c.loop-item.number c.loop-item.item-index c.ty.ensures c.loop-item.invariant.same
    c.in-Some.ty c.in-Some.is in
    let there = item_there c.args.items.now c.loop-item.item-index c.item-item.result c.loop-item-test.true c.item-item.is in
    e
    ∙ sym (stored_stops c.args.table.now.list (types_of c.args.parts) c.args.items.now c.loop-item.all c.loop-item.item-index _
    c.loop-item.invariant.so_far c.item-item.result there (shape_of c.in-Some.ty.now) part (sym c.stored.ensures ∙ c.in_err-stored.was))

pub stored_parts-returns-in_err-all : goal.stored_parts-returns-in_err-all
stored_parts-returns-in_err-all t c =
    let e : c.from_residual-in_err-all.result ≡ None = search rules in
    let part : slice_get (types_of c.args.parts) c.loop-item.item-index ≡ Some (shape_of c.in-Some.ty.now) =
    part_is (λ t. shape_of t.now) (types_of c.args.parts) c.ty.result c.loop-item.number c.loop-item.item-index c.ty.ensures c.loop-item.invariant.same
    c.in-Some.ty c.in-Some.is in
    let there = item_there c.args.items.now c.loop-item.item-index c.item-item.result c.loop-item-test.true c.item-item.is in
    let sum : few c.saturating_add.result ≡ few (c.loop-item.all + c.in_ok-stored.field-0) =
    few_same c.saturating_add.result (c.loop-item.all + c.in_ok-stored.field-0) (λ h. grind arith) (λ h. grind arith) in
    e
    ∙ sym (stored_past c.args.table.now.list (types_of c.args.parts) c.args.items.now c.loop-item.all c.loop-item.item-index _
    c.loop-item.invariant.so_far c.item-item.result there (shape_of c.in-Some.ty.now) part c.in_ok-stored.field-0 (sym c.stored.ensures
    ∙ c.in_ok-stored.was) (sym sum ∙ sym c.few.ensures ∙ c.in_err-all.was))

pub stored_parts-returns : goal.stored_parts-returns
stored_parts-returns t c =
    sym (stored_end c.args.table.now.list (types_of c.args.parts) c.args.items.now c.loop-item.all c.loop-item.item-index _ c.loop-item.invariant.so_far
    c.loop-item.invariant.few c.loop-item-test.false)

pub stored_parts-loop-item-preserved : goal.stored_parts-loop-item-preserved
stored_parts-loop-item-preserved t c =
    let part : slice_get (types_of c.args.parts) c.loop-item.item-index ≡ Some (shape_of c.in-Some.ty.now) =
    part_is (λ t. shape_of t.now) (types_of c.args.parts) c.ty.result c.loop-item.number c.loop-item.item-index c.ty.ensures c.loop-item.invariant.same
    c.in-Some.ty c.in-Some.is in
    let there = item_there c.args.items.now c.loop-item.item-index c.item-item.result c.loop-item-test.true c.item-item.is in
    let sum : few c.saturating_add.result ≡ few (c.loop-item.all + c.in_ok-stored.field-0) =
    few_same c.saturating_add.result (c.loop-item.all + c.in_ok-stored.field-0) (λ h. grind arith) (λ h. grind arith) in
    let more : few (c.loop-item.all + c.in_ok-stored.field-0) ≡ Some c.in_ok-all.all = sym sum ∙ sym c.few.ensures ∙ c.in_ok-all.was in
    let small = few_is (c.loop-item.all + c.in_ok-stored.field-0) c.in_ok-all.all more in
    record {
      same = ap (λ k. k + 1) c.loop-item.invariant.same;
      few = omega (arith, small.0, small.1);
      so_far =
          ap (λ k.
          together (Some c.in_ok-all.all) (list_stored c.args.table.now.list (drop k (types_of c.args.parts)) (drop k c.args.items.now)))
          (add-one c.loop-item.item-index)
          ∙ stored_more c.args.table.now.list (types_of c.args.parts) c.args.items.now c.loop-item.all c.loop-item.item-index _ c.loop-item.invariant.so_far
          c.item-item.result there (shape_of c.in-Some.ty.now) part c.in_ok-stored.field-0 c.in_ok-all.all (sym c.stored.ensures ∙ c.in_ok-stored.was)
          more;
    }
