use Rattle.std.proofs.Common.{rules, arith, ◌≡◌, ◌∷◌, suc, Some, None, Err, drop, length, refl, sym, ap, ◌∙◌, add-one}
use Rattle.std.specs.Prelude.{slice_get}
use Rattle.std.proofs.lemmas.List.{nil_from_length}
use Rattle.std.specs.Vec.Iter.{into_iter_items}
use Rattle.cs_types.specs.Shape.{shape_of}
use Rattle.cs_ast.specs.declared.typed.statement.Initial.TheVariants as held
use Rattle.cs_ast.specs.TypedTree.{Parts, NoPart}
use Rattle.cs_ast.specs.TypedView.{initial, initial_list}
use Rattle.cs_ast.proofs.TypedRows.{initial-List}
use Rattle.cs_scopes.specs.Verdicts.{Fine, Fault}
use Rattle.cs_declarations.specs.Initializers.{part_judged, parts_judged}
use Rattle.cs_scopes.specs.Parts.{part_types}
use Rattle.cs_declarations.specs.View as view
use Rattle.cs_scopes.specs.Parts.{types_of}
use Rattle.cs_declarations.proofs.PartTypes.{part_is, no_part}
use Rattle.cs_declarations.proofs.Refusing.{refused}
use Rattle.cs_declarations.proofs.JudgedSoFar.{joined, judged_refused, judged_is, judged_none, nothing_judged, judged_over, judged_end, judged_fine}
use Rattle.cs_declarations.proofs.JudgedSoFar.{judged_wrong, reported_wrong, reported_fine}
use Rattle.cs_declarations.proofs.judging.+judging.Goals as goal
use Rattle.cs_declarations.proofs.judging.+judging.Goals.{part_judged-in-Some+in_ok-judged-in-Some, part_judged-in-None, parts_judged-in-None}
use Rattle.cs_declarations.proofs.judging.+judging.Goals.{parts_judged-in-Some+in_default}

pub part_judged-returns-in_err-judged-in-Some : goal.part_judged-returns-in_err-judged-in-Some
part_judged-returns-in_err-judged-in-Some t c =
    let e : c.from_residual.result ≡ Err c.in_err-judged-in-Some.field-0.0 = search rules in
    let parts : part_types c.args.context.now.table.list (shape_of c.args.ty.now) ≡ Some (types_of c.in-Some.parts) = sym c.in-Some.ensures in
    refused initial (part_judged c.args.context.now (view.storage c.args.storage) c.args.place (shape_of c.args.ty.now) (initial c.args.part))
    c.from_residual.result c.in_err-judged-in-Some.field-0.0 e
    (judged_refused c.args.context.now (view.storage c.args.storage) c.args.place (shape_of c.args.ty.now) c.args.part c.in-List.list c.in-List.is
    (types_of c.in-Some.parts) c.in_err-judged-in-Some.field-0.0 parts c.in_err-judged-in-Some.ensures)

pub part_judged-returns-after-parts_of : goal.part_judged-returns-after-parts_of
part_judged-returns-after-parts_of t c =
    elim c.match-parts_of.branch [
      | part_judged-in-Some+in_ok-judged-in-Some w ↦
          let parts : part_types c.args.context.now.table.list (shape_of c.args.ty.now) ≡ Some (types_of w.in-Some.parts) = sym w.in-Some.ensures in
          judged_is c.args.context.now (view.storage c.args.storage) c.args.place (shape_of c.args.ty.now) c.args.part c.in-List.list c.in-List.is
          (types_of w.in-Some.parts) (initial_list w.in_ok-judged-in-Some.judged.items) parts w.in_ok-judged-in-Some.ensures
          ∙ ap Fine (sym (initial-List w.in_ok-judged-in-Some.judged))
          ∙ ap (λ l. Fine (initial (held.List l))) (sym w.judged-is)
      | part_judged-in-None w ↦
          let parts : part_types c.args.context.now.table.list (shape_of c.args.ty.now) ≡ None = sym w.in-None.ensures in
          judged_none c.args.context.now (view.storage c.args.storage) c.args.place (shape_of c.args.ty.now) c.args.part c.in-List.list c.in-List.is parts
          ∙ ap (λ xs. Fine (Parts (initial_list xs))) (sym w.new-judged.ensures.items)
          ∙ ap Fine (sym (initial-List w.new-judged.result))
          ∙ ap (λ l. Fine (initial (held.List l))) (sym w.judged-is)
    ]

pub parts_judged-loop-item-init : goal.parts_judged-loop-item-init
parts_judged-loop-item-init t c =
    let items : into_iter_items c.into_iter-item-iterator.result ≡ c.args.items.items = c.into_iter-item-iterator.ensures.into_iter_gives.0 in
    record {
      counted = (let all : length (into_iter_items c.into_iter-item-iterator.result) ≡ length c.args.items.items = ap length items in omega (arith, all));
      lengths = c.into_iter-item-iterator.ensures.into_iter_gives.1 ∙ c.args.items.ok.0 ∙ sym (ap length items);
      so_far = nothing_judged c.args.context.now (view.storage c.args.storage) c.args.place (types_of c.args.parts) c.args.items.items
          (into_iter_items c.into_iter-item-iterator.result) c.new-list.result.items c.new-list.ensures.items items;
    }

pub parts_judged-overflow_add-number : goal.parts_judged-overflow_add-number
parts_judged-overflow_add-number t c =
    let there : into_iter_items c.loop-item.item-iterator ≡ c.in-Some.item ∷ into_iter_items c.next.new.self = c.in-Some.ensures.steps.0 in
    let short : length (into_iter_items c.loop-item.item-iterator) ≡ suc (length (into_iter_items c.next.new.self)) = ap length there in
    omega (arith, short, c.loop-item.invariant.counted, c.args.items.ok.0, c.args.items.small)

pub parts_judged-loop-item-preserved-in-Continue-1 : goal.parts_judged-loop-item-preserved-in-Continue-1
parts_judged-loop-item-preserved-in-Continue-1 t c =
    let there : into_iter_items c.loop-item.item-iterator ≡ c.in-Some.item ∷ into_iter_items c.next.new.self = c.in-Some.ensures.steps.0 in
    let short : length (into_iter_items c.loop-item.item-iterator) ≡ suc (length (into_iter_items c.next.new.self)) = ap length there in
    let part : slice_get (types_of c.args.parts) c.loop-item.number ≡ Some (shape_of c.in-Some-ty.ty.now) =
    part_is (λ t. shape_of t.now) (types_of c.args.parts) c.ty.result c.loop-item.number c.loop-item.number c.ty.ensures refl c.in-Some-ty.ty
    c.in-Some-ty.is in
    record {
      counted = omega (arith, short, c.loop-item.invariant.counted);
      lengths = omega (arith, short, c.loop-item.invariant.lengths, c.in-Some.ensures.steps.1);
      so_far =
          ap (λ k.
          joined c.args.place c.loop-item.wrong c.push.new.self.items
          (parts_judged c.args.context.now (view.storage c.args.storage) c.args.place (drop k (types_of c.args.parts))
          (initial_list (into_iter_items c.next.new.self)))) (add-one c.loop-item.number)
          ∙ judged_fine c.args.context.now (view.storage c.args.storage) c.args.place (types_of c.args.parts) c.loop-item.number c.loop-item.wrong
          c.loop-item.list.items (into_iter_items c.loop-item.item-iterator) _ c.loop-item.invariant.so_far c.in-Some.item (into_iter_items c.next.new.self)
          there (shape_of c.in-Some-ty.ty.now) part c.in-Ok.judged c.push.new.self.items c.in-Ok.ensures c.in_ok-push-in-Ok.ensures.items;
    }

pub parts_judged-loop-item-preserved : goal.parts_judged-loop-item-preserved
parts_judged-loop-item-preserved t c =
    let there : into_iter_items c.loop-item.item-iterator ≡ c.in-Some.item ∷ into_iter_items c.next.new.self = c.in-Some.ensures.steps.0 in
    let short : length (into_iter_items c.loop-item.item-iterator) ≡ suc (length (into_iter_items c.next.new.self)) = ap length there in
    let part : slice_get (types_of c.args.parts) c.loop-item.number ≡ Some (shape_of c.in-Some-ty.ty.now) =
    part_is (λ t. shape_of t.now) (types_of c.args.parts) c.ty.result c.loop-item.number c.loop-item.number c.ty.ensures refl c.in-Some-ty.ty
    c.in-Some-ty.is in
    let reported : part_judged c.args.context.now (view.storage c.args.storage) c.args.place (shape_of c.in-Some-ty.ty.now) (initial c.in-Some.item)
    ≡ Fault c.in-Err-Code.code c.in-Err-Code.field-0-1 = rw c.in-Err-Code.field-0-is at c.in-Err-Code.ensures in
    record {
      counted = omega (arith, short, c.loop-item.invariant.counted);
      lengths = omega (arith, short, c.loop-item.invariant.lengths, c.in-Some.ensures.steps.1);
      so_far =
          ap (λ k.
          joined c.args.place (Some c.least.result) c.loop-item.list.items
          (parts_judged c.args.context.now (view.storage c.args.storage) c.args.place (drop k (types_of c.args.parts))
          (initial_list (into_iter_items c.next.new.self)))) (add-one c.loop-item.number)
          ∙ ap (λ code.
          joined c.args.place (Some code) c.loop-item.list.items
          (parts_judged c.args.context.now (view.storage c.args.storage) c.args.place (drop (suc c.loop-item.number) (types_of c.args.parts))
          (initial_list (into_iter_items c.next.new.self)))) c.least.ensures
          ∙ judged_wrong c.args.context.now (view.storage c.args.storage) c.args.place (types_of c.args.parts) c.loop-item.number c.loop-item.wrong
          c.loop-item.list.items (into_iter_items c.loop-item.item-iterator) _ c.loop-item.invariant.so_far c.in-Some.item (into_iter_items c.next.new.self)
          there (shape_of c.in-Some-ty.ty.now) part c.in-Err-Code.code c.in-Err-Code.field-0-1 reported;
    }

pub parts_judged-returns-in-Some-wrong : goal.parts_judged-returns-in-Some-wrong
parts_judged-returns-in-Some-wrong t c =
    let ended : parts_judged c.args.context.now (view.storage c.args.storage) c.args.place (types_of c.args.parts) (initial_list c.args.items.items)
    ≡ joined c.args.place c.loop-item.wrong c.loop-item.list.items (Fine NoPart) =
    elim c.match-next.branch [
      | parts_judged-in-None w ↦
          judged_end c.args.context.now (view.storage c.args.storage) c.args.place (types_of c.args.parts) c.loop-item.number c.loop-item.wrong
          c.loop-item.list.items (into_iter_items c.loop-item.item-iterator) _ c.loop-item.invariant.so_far
          (nil_from_length (into_iter_items c.loop-item.item-iterator) (sym c.loop-item.invariant.lengths ∙ w.in-None.ensures.steps.0))
      | parts_judged-in-Some+in_default w ↦
          judged_over c.args.context.now (view.storage c.args.storage) c.args.place (types_of c.args.parts) c.loop-item.number c.loop-item.wrong
          c.loop-item.list.items (into_iter_items c.loop-item.item-iterator) _ c.loop-item.invariant.so_far
          (no_part (λ t. shape_of t.now) (types_of c.args.parts) w.ty.result c.loop-item.number c.loop-item.number w.ty.ensures refl w.in_default.is)
    ] in
    reported_wrong c.args.place c.loop-item.wrong c.loop-item.list.items _ c.in-Some-wrong.code ended c.in-Some-wrong.is

pub parts_judged-returns-in-None-wrong : goal.parts_judged-returns-in-None-wrong
parts_judged-returns-in-None-wrong t c =
    let ended : parts_judged c.args.context.now (view.storage c.args.storage) c.args.place (types_of c.args.parts) (initial_list c.args.items.items)
    ≡ joined c.args.place c.loop-item.wrong c.loop-item.list.items (Fine NoPart) =
    elim c.match-next.branch [
      | parts_judged-in-None w ↦
          judged_end c.args.context.now (view.storage c.args.storage) c.args.place (types_of c.args.parts) c.loop-item.number c.loop-item.wrong
          c.loop-item.list.items (into_iter_items c.loop-item.item-iterator) _ c.loop-item.invariant.so_far
          (nil_from_length (into_iter_items c.loop-item.item-iterator) (sym c.loop-item.invariant.lengths ∙ w.in-None.ensures.steps.0))
      | parts_judged-in-Some+in_default w ↦
          judged_over c.args.context.now (view.storage c.args.storage) c.args.place (types_of c.args.parts) c.loop-item.number c.loop-item.wrong
          c.loop-item.list.items (into_iter_items c.loop-item.item-iterator) _ c.loop-item.invariant.so_far
          (no_part (λ t. shape_of t.now) (types_of c.args.parts) w.ty.result c.loop-item.number c.loop-item.number w.ty.ensures refl w.in_default.is)
    ] in
    reported_fine c.args.place c.loop-item.wrong c.loop-item.list.items _ ended c.in-None-wrong.is
