use Rattle.std.proofs.Common.{◌≡◌, ◌+◌, suc, drop, Some, sym, ap, ◌∙◌, add-one}
use Rattle.std.specs.Prelude.{◌&&◌, slice_get}
use Rattle.cs_types.specs.Shape.{shape_of}
use Rattle.cs_declarations.specs.Initializers.{list_has_forms}
use Rattle.cs_scopes.specs.Parts.{part_types}
use Rattle.cs_declarations.specs.View as view
use Rattle.cs_scopes.specs.Parts.{types_of}
use Rattle.cs_declarations.proofs.PartTypes.{part_is, no_part}
use Rattle.cs_declarations.proofs.WrittenLists.{has_form-List, item_there, item_forms, item_too_many, no_item_left}
use Rattle.cs_declarations.proofs.forms.+forms.Goals as goal

pub has_form-returns-in-Some : goal.has_form-returns-in-Some
has_form-returns-in-Some t c =
    let parts : part_types c.args.table.now.list (shape_of c.args.ty.now) ≡ Some (types_of c.in-Some.parts) = sym c.in-Some.ensures in
    c.have_forms.ensures ∙ ap (list_has_forms c.args.table.now.list (view.storage c.args.storage) (types_of c.in-Some.parts)) c.deref-in-Some.ensures.value
    ∙ sym (has_form-List c.args.table.now.list (view.storage c.args.storage) (shape_of c.args.ty.now) (types_of c.in-Some.parts) c.args.written.now
    c.in-List.items c.in-List.field-1 parts c.in-List.is)

pub have_forms-returns-in_default : goal.have_forms-returns-in_default
have_forms-returns-in_default t c =
    let part : slice_get (types_of c.args.parts) c.loop-item.item-index ≡ Some (shape_of c.in-Some.ty.now) =
    part_is (λ t. shape_of t.now) (types_of c.args.parts) c.ty.result c.loop-item.number c.loop-item.item-index c.ty.ensures c.loop-item.invariant.same
    c.in-Some.ty c.in-Some.is in
    ap (λ b.
    b && list_has_forms c.args.table.now.list (view.storage c.args.storage) (drop (suc c.loop-item.item-index) (types_of c.args.parts))
    (drop (suc c.loop-item.item-index) c.args.items.now)) (sym c.if-has_form.false ∙ c.has_form.ensures)
    ∙ sym (item_forms c.args.table.now.list (view.storage c.args.storage) (types_of c.args.parts) c.args.items.now c.loop-item.item-index c.item-item.result
    (item_there c.args.items.now c.loop-item.item-index c.item-item.result c.loop-item-test.true c.item-item.is) (shape_of c.in-Some.ty.now) part)
    ∙ c.loop-item.invariant.so_far

pub have_forms-returns-in_default-2 : goal.have_forms-returns-in_default-2
have_forms-returns-in_default-2 t c =
    sym (item_too_many c.args.table.now.list (view.storage c.args.storage) (types_of c.args.parts) c.args.items.now c.loop-item.item-index c.item-item.result
    (item_there c.args.items.now c.loop-item.item-index c.item-item.result c.loop-item-test.true c.item-item.is)
    (no_part (λ t. shape_of t.now) (types_of c.args.parts) c.ty.result c.loop-item.number c.loop-item.item-index c.ty.ensures c.loop-item.invariant.same
    c.in_default.is))
    ∙ c.loop-item.invariant.so_far

pub have_forms-returns : goal.have_forms-returns
have_forms-returns t c =
    sym (no_item_left c.args.table.now.list (view.storage c.args.storage) (types_of c.args.parts) c.args.items.now c.loop-item.item-index
    c.loop-item-test.false)
    ∙ c.loop-item.invariant.so_far

pub have_forms-loop-item-preserved : goal.have_forms-loop-item-preserved
have_forms-loop-item-preserved t c =
    let part : slice_get (types_of c.args.parts) c.loop-item.item-index ≡ Some (shape_of c.in-Some.ty.now) =
    part_is (λ t. shape_of t.now) (types_of c.args.parts) c.ty.result c.loop-item.number c.loop-item.item-index c.ty.ensures c.loop-item.invariant.same
    c.in-Some.ty c.in-Some.is in
    record {
      same = ap (λ k. k + 1) c.loop-item.invariant.same;
      so_far =
          ap (λ k. list_has_forms c.args.table.now.list (view.storage c.args.storage) (drop k (types_of c.args.parts)) (drop k c.args.items.now))
          (add-one c.loop-item.item-index)
          ∙ ap (λ b.
          b && list_has_forms c.args.table.now.list (view.storage c.args.storage) (drop (suc c.loop-item.item-index) (types_of c.args.parts))
          (drop (suc c.loop-item.item-index) c.args.items.now)) (sym c.if-has_form.true ∙ c.has_form.ensures)
          ∙ sym (item_forms c.args.table.now.list (view.storage c.args.storage) (types_of c.args.parts) c.args.items.now c.loop-item.item-index
          c.item-item.result (item_there c.args.items.now c.loop-item.item-index c.item-item.result c.loop-item-test.true c.item-item.is)
          (shape_of c.in-Some.ty.now) part)
          ∙ c.loop-item.invariant.so_far;
    }
