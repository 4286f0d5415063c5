use Rattle.std.proofs.Common.{rules, suc, ◌≡◌, Some, None, Err, drop, refl, sym, ap, ap₂, subst, ◌∙◌, add-one}
use Rattle.std.specs.Prelude.{slice_get}
use Rattle.std.specs.Option.{option_or}
use Rattle.cs_types.specs.Shape.{shape_of}
use Rattle.cs_ast.specs.declared.typed.statement.Initial.{Initial as Held}
use Rattle.cs_ast.specs.declared.typed.statement.Initial.TheVariants as held
use Rattle.cs_ast.specs.TypedTree.{Parts}
use Rattle.cs_ast.specs.TypedView.{initial_list}
use Rattle.cs_ast.proofs.TypedRows.{initial-List}
use Rattle.cs_scopes.specs.Verdicts.{Fine, Fault, lift, IsRefused}
use Rattle.cs_scopes.specs.Faults.{least_code, unless_stopped}
use Rattle.cs_scopes.proofs.LesserCodes.{least_code-none}
use Rattle.cs_declarations.specs.Initializers.{initial_read, item_fault, list_read, list_fault}
use Rattle.cs_scopes.specs.Parts.{part_types}
use Rattle.cs_declarations.specs.View as view
use Rattle.cs_declarations.specs.View.{reading, readings}
use Rattle.cs_scopes.specs.Parts.{types_of}
use Rattle.cs_declarations.proofs.PartTypes.{part_is, no_part}
use Rattle.cs_declarations.proofs.WrittenLists.{item_there}
use Rattle.cs_declarations.specs.Answered.{AnswersWith, UnlessMemory}
use Rattle.cs_declarations.proofs.Refusing.{refused_with, unless_memory, passed_on}
use Rattle.cs_declarations.proofs.ValuesSoFar.{following, list_refused, list_is, no_values, nothing_read, read_over, read_end, read_stops, read_more}
use Rattle.cs_declarations.proofs.FaultsSoFar.{item_fault-List, no_parts, codes_over, codes_end, codes_more}
use Rattle.cs_declarations.proofs.initials.+initials.Goals as goal
use Rattle.cs_declarations.proofs.initials.+initials.Goals.{item_read-in-Some+in_ok-list-in-Some, item_read-in-None}
use Rattle.cs_declarations.proofs.initials.+initials.Goals.{items_read-in-Ok+in_ok-push-in-Ok, items_read-in-Err-Code}

pub item_read-returns-in_err-list-in-Some-clause-values : goal.item_read-returns-in_err-list-in-Some-clause-values
item_read-returns-in_err-list-in-Some-clause-values t c =
    let e : c.from_residual.result ≡ Err c.in_err-list-in-Some.field-0.0 = search rules in
    let parts : part_types c.args.context.now.table.list (shape_of c.args.ty.now) ≡ Some (types_of c.in-Some.parts) = sym c.in-Some.ensures in
    let refused : IsRefused (list_read c.args.context.now c.args.literals.now.items (types_of c.in-Some.parts) c.in-List.items.items)
    c.in_err-list-in-Some.field-0.0 = rw c.deref.ensures.value at c.in_err-list-in-Some.ensures.values in
    refused_with reading (initial_read c.args.context.now c.args.literals.now.items (shape_of c.args.ty.now) c.args.written.now) c.from_residual.result
    c.items_read.new.literals.items c.in_err-list-in-Some.field-0.0 e
    (list_refused c.args.context.now c.args.literals.now.items (shape_of c.args.ty.now) c.args.written.now c.in-List.items c.in-List.field-1 c.in-List.is
    (types_of c.in-Some.parts) c.in_err-list-in-Some.field-0.0 parts refused)

pub item_read-returns-after-parts_of-clause-values : goal.item_read-returns-after-parts_of-clause-values
item_read-returns-after-parts_of-clause-values t c =
    elim c.match-parts_of.branch [
      | item_read-in-Some+in_ok-list-in-Some w ↦
          let parts : part_types c.args.context.now.table.list (shape_of c.args.ty.now) ≡ Some (types_of w.in-Some.parts) = sym w.in-Some.ensures in
          let reported : list_read c.args.context.now c.args.literals.now.items (types_of w.in-Some.parts) c.in-List.items.items
          ≡ Fine (readings w.in_ok-list-in-Some.list.items w.items_read.new.literals.items) =
          rw w.deref.ensures.value at w.in_ok-list-in-Some.ensures.values in
          list_is c.args.context.now c.args.literals.now.items (shape_of c.args.ty.now) c.args.written.now c.in-List.items c.in-List.field-1 c.in-List.is
          (types_of w.in-Some.parts) (readings w.in_ok-list-in-Some.list.items w.items_read.new.literals.items) parts reported
          ∙ ap (λ i. Fine (i, w.items_read.new.literals.items)) (sym (initial-List w.in_ok-list-in-Some.list))
          ∙ ap (λ l. Fine (reading (held.List l) w.items_read.new.literals.items)) (sym w.list-is)
          ∙ ap (λ ls. Fine (reading (held.List c.match-parts_of.list) ls.items)) (sym w.literals-is)
      | item_read-in-None w ↦
          let parts : part_types c.args.context.now.table.list (shape_of c.args.ty.now) ≡ None = sym w.in-None.ensures in
          no_values c.args.context.now c.args.literals.now.items (shape_of c.args.ty.now) c.args.written.now c.in-List.items c.in-List.field-1 c.in-List.is
          parts
          ∙ ap (λ xs. Fine (Parts (initial_list xs), c.args.literals.now.items)) (sym w.new-list.ensures.items)
          ∙ ap (λ i. Fine (i, c.args.literals.now.items)) (sym (initial-List w.new-list.result))
          ∙ ap (λ l. Fine (reading (held.List l) c.args.literals.now.items)) (sym w.list-is)
          ∙ ap (λ ls. Fine (reading (held.List c.match-parts_of.list) ls.items)) (sym w.literals-is)
    ]

pub items_read-loop-i-init : goal.items_read-loop-i-init
items_read-loop-i-init t c = record {
  values = nothing_read c.new-list.result.items (list_read c.args.context.now c.args.literals.now.items (types_of c.args.parts) c.args.items.now)
      c.new-list.ensures.items;
  codes = λ at. refl;
}

pub item_read-returns-in_err-list-in-Some-clause-codes : goal.item_read-returns-in_err-list-in-Some-clause-codes
item_read-returns-in_err-list-in-Some-clause-codes t c = λ at.
    let e : c.from_residual.result ≡ Err c.in_err-list-in-Some.field-0.0 = search rules in
    let parts : part_types c.args.context.now.table.list (shape_of c.args.ty.now) ≡ Some (types_of c.in-Some.parts) = sym c.in-Some.ensures in
    let said = item_fault-List c.args.context.now (view.storage c.args.storage) at c.args.literals.now.items (shape_of c.args.ty.now) c.args.written.now
    c.in-List.items c.in-List.field-1 c.in-List.is (Some (types_of c.in-Some.parts)) parts in
    passed_on _ c.items_read.result c.from_residual.result c.in_err-list-in-Some.field-0.0 c.in_err-list-in-Some.was e
    (subst (λ f. UnlessMemory c.items_read.result (c.items_read.new.fault ≡ least_code c.args.fault.now f))
    (ap (list_fault c.args.context.now c.args.literals.now.items (view.storage c.args.storage) at (types_of c.in-Some.parts)) c.deref.ensures.value
    ∙ sym said) (c.items_read.ensures.codes at))

pub item_read-returns-after-parts_of-clause-codes : goal.item_read-returns-after-parts_of-clause-codes
item_read-returns-after-parts_of-clause-codes t c = λ at.
    elim c.match-parts_of.branch [
      | item_read-in-Some+in_ok-list-in-Some w ↦
          let parts : part_types c.args.context.now.table.list (shape_of c.args.ty.now) ≡ Some (types_of w.in-Some.parts) = sym w.in-Some.ensures in
          let said = item_fault-List c.args.context.now (view.storage c.args.storage) at c.args.literals.now.items (shape_of c.args.ty.now)
          c.args.written.now c.in-List.items c.in-List.field-1 c.in-List.is (Some (types_of w.in-Some.parts)) parts in
          w.fault-is ∙ w.in_ok-list-in-Some.ensures.codes at
          ∙ ap (least_code c.args.fault.now)
          (ap (list_fault c.args.context.now c.args.literals.now.items (view.storage c.args.storage) at (types_of w.in-Some.parts)) w.deref.ensures.value
          ∙ sym said)
      | item_read-in-None w ↦
          let parts : part_types c.args.context.now.table.list (shape_of c.args.ty.now) ≡ None = sym w.in-None.ensures in
          w.fault-is ∙ sym (least_code-none c.args.fault.now)
          ∙ ap (least_code c.args.fault.now)
          (sym (no_parts c.args.context.now (view.storage c.args.storage) at c.args.literals.now.items (shape_of c.args.ty.now) c.args.written.now
          c.in-List.items c.in-List.field-1 c.in-List.is parts))
    ]

pub items_read-returns-in_default-clause-values : goal.items_read-returns-in_default-clause-values
items_read-returns-in_default-clause-values t c =
    let part = no_part (λ t. shape_of t.now) (types_of c.args.parts) c.ty.result c.loop-i.i c.loop-i.i c.ty.ensures refl c.in_default.is in
    subst (λ v. AnswersWith (λ list following. readings list.items following) v c.unless_stopped.result c.loop-i.literals.items)
    (read_over c.args.context.now (types_of c.args.parts) c.args.items.now c.loop-i.literals.items c.loop-i.i c.loop-i.refused c.loop-i.list.items _
    c.loop-i.invariant.values part) (c.unless_stopped.ensures c.loop-i.literals.items)

pub items_read-returns-in_default-clause-codes : goal.items_read-returns-in_default-clause-codes
items_read-returns-in_default-clause-codes t c = λ at.
    let part = no_part (λ t. shape_of t.now) (types_of c.args.parts) c.ty.result c.loop-i.i c.loop-i.i c.ty.ensures refl c.in_default.is in
    unless_memory c.unless_stopped.result
    (codes_over c.args.context.now (view.storage c.args.storage) at (types_of c.args.parts) c.args.items.now c.loop-i.literals.items c.loop-i.i c.loop-i.fault _
    (c.loop-i.invariant.codes at) part)

pub items_read-returns-clause-values : goal.items_read-returns-clause-values
items_read-returns-clause-values t c =
    subst (λ v. AnswersWith (λ list following. readings list.items following) v c.unless_stopped-2.result c.loop-i.literals.items)
    (read_end c.args.context.now (types_of c.args.parts) c.args.items.now c.loop-i.literals.items c.loop-i.i c.loop-i.refused c.loop-i.list.items _
    c.loop-i.invariant.values c.loop-i-test.false) (c.unless_stopped-2.ensures c.loop-i.literals.items)

pub items_read-returns-clause-codes : goal.items_read-returns-clause-codes
items_read-returns-clause-codes t c = λ at.
    unless_memory c.unless_stopped-2.result
    (codes_end c.args.context.now (view.storage c.args.storage) at (types_of c.args.parts) c.args.items.now c.loop-i.literals.items c.loop-i.i c.loop-i.fault _
    (c.loop-i.invariant.codes at) c.loop-i-test.false)

pub items_read-loop-i-preserved : goal.items_read-loop-i-preserved
items_read-loop-i-preserved t c =
    let i = c.loop-i.i in
    let all = c.args.items.now in
    let types = types_of c.args.parts in
    let context = c.args.context.now in
    let stands = view.storage c.args.storage in
    let ls = c.loop-i.literals.items in
    let ms = c.match-item_read.literals.items in
    let more = c.match-item_read.list.items in
    let item = c.index-items-i.result in
    let ty = shape_of c.in-Some.ty.now in
    let part : slice_get types i ≡ Some ty = part_is (λ t. shape_of t.now) types c.ty.result i i c.ty.ensures refl c.in-Some.ty c.in-Some.is in
    let there = item_there all i item c.loop-i-test.true c.index-items-i.is in
    elim c.match-item_read.branch [
      | items_read-in-Ok+in_ok-push-in-Ok w ↦
          let pushed = ap (λ l. l.items) w.list-is ∙ w.in_ok-push-in-Ok.ensures.items in
          let read : initial_read context ls ty item ≡ Fine (reading w.in-Ok.read ms) =
          w.in-Ok.ensures.values ∙ ap (λ l. Fine (reading w.in-Ok.read l.items)) (sym w.literals-is) in
          record {
            values =
                ap (λ k. unless_stopped c.match-item_read.refused (lift (following more) (list_read context ms (drop k types) (drop k all)))) (add-one i)
                ∙ ap (λ r. unless_stopped r (lift (following more) (list_read context ms (drop (suc i) types) (drop (suc i) all)))) w.refused-is
                ∙ read_more context types all ls i c.loop-i.refused c.loop-i.list.items _ c.loop-i.invariant.values item there ty part w.in-Ok.read ms more
                read
                pushed;
            codes = λ at.
                ap (λ k. least_code c.item_read.new.fault (list_fault context ms stands at (drop k types) (drop k all))) (add-one i)
                ∙ codes_more context stands at types all ls i c.loop-i.fault _ (c.loop-i.invariant.codes at) item there ty part
                (Fine (reading w.in-Ok.read ms)) read ms refl c.item_read.new.fault (w.in-Ok.ensures.codes at);
          }
      | items_read-in-Err-Code w ↦
          let refused : initial_read context ls ty item ≡ Fault w.in-Err-Code.code w.in-Err-Code.at =
          subst (IsRefused (initial_read context ls ty item)) w.in-Err-Code.field-0-is w.in-Err-Code.ensures.values in
          let now : c.match-item_read.refused ≡ option_or c.loop-i.refused (Some (w.in-Err-Code.code, w.in-Err-Code.at)) =
          w.refused-is ∙ w.or-refused.ensures
          ∙ ap₂ (λ code at. option_or c.loop-i.refused (Some (code, at))) w.in-Err-Code.code-is w.in-Err-Code.at-is in
          record {
            values =
                ap (λ k. unless_stopped c.match-item_read.refused (lift (following more) (list_read context ms (drop k types) (drop k all)))) (add-one i)
                ∙ ap (λ r. unless_stopped r (lift (following more) (list_read context ms (drop (suc i) types) (drop (suc i) all)))) now
                ∙ read_stops context types all ls i c.loop-i.refused c.loop-i.list.items _ c.loop-i.invariant.values item there ty part w.in-Err-Code.code
                w.in-Err-Code.at ms more refused;
            codes = λ at.
                ap (λ k. least_code c.item_read.new.fault (list_fault context ms stands at (drop k types) (drop k all))) (add-one i)
                ∙ codes_more context stands at types all ls i c.loop-i.fault _ (c.loop-i.invariant.codes at) item there ty part
                (Fault w.in-Err-Code.code w.in-Err-Code.at) refused ms (ap (λ l. l.items) w.literals-is ∙ w.clear.ensures.items) c.item_read.new.fault
                (subst (λ f.
                UnlessMemory {A = Held} (Err f) (c.item_read.new.fault ≡ least_code c.loop-i.fault (item_fault context ls stands at ty item)))
                w.in-Err-Code.field-0-is (w.in-Err-Code.ensures.codes at));
          }
    ]
