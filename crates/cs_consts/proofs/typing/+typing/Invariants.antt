use Rattle.std.proofs.Common.{◌≡◌, ◌+◌, ◌*◌, ◌++◌, max, drop, map, None}
use Rattle.std.specs.Prelude.{vec_len}
use Rattle.cs_types.specs.declared.ctype.CType.{CType}
use Rattle.cs_types.specs.Shape.{shape_of}
use Rattle.cs_ast.specs.RawView.{written, written_list}
use Rattle.cs_ast.specs.RawHeight.{height, highest}
use Rattle.cs_scopes.specs.Verdicts.{lift}
use Rattle.cs_scopes.specs.Faults.{least_code, unless_stopped}
use Rattle.cs_consts.specs.Typing.{literals_after_list, arguments_listed, arguments_listed_fault, numbers_listed, bounds_listed}
use Rattle.cs_consts.specs.Rows.{expressions_before}
use Rattle.cs_consts.proofs.typing.+typing.Given as goal

abbrev pub invariant-arguments_of-loop-i : goal.invariant-arguments_of-loop-i
invariant-arguments_of-loop-i l = record {
  made : l.refused ≡ None → vec_len l.list ≡ l.i;
  values : unless_stopped l.refused (lift (expressions_before l.list.items)
      (arguments_listed l.context l.purpose l.literals.items (map (λ (ty : CType). shape_of ty) (drop l.i l.function.parameters.items))
      (drop l.i l.arguments)))
      ≡ arguments_listed l.context l.purpose l.initial.literals.items (map (λ (ty : CType). shape_of ty) l.function.parameters.items) l.arguments;
  codes : least_code l.least
      (arguments_listed_fault l.context l.purpose l.literals.items l.place (map (λ (ty : CType). shape_of ty) (drop l.i l.function.parameters.items))
      (drop l.i l.arguments))
      ≡ least_code l.fn.fault (arguments_listed_fault l.context l.purpose l.initial.literals.items l.place
      (map (λ (ty : CType). shape_of ty) l.function.parameters.items) l.arguments);
  texts : l.refused ≡ None
      → literals_after_list l.literals.items (drop l.i l.arguments) ≡ literals_after_list l.initial.literals.items l.arguments;
}

abbrev pub invariant-bounds_of-loop-bound : goal.invariant-bounds_of-loop-bound
invariant-bounds_of-loop-bound l = record {
  numbers : numbers_listed l.context l.initial.literals.items l.bounds
      ≡ l.numbers.items ++ numbers_listed l.context l.literals.items (drop l.bound-index l.bounds);
  bounds : unless_stopped l.refused (bounds_listed l.context l.literals.items (drop l.bound-index l.bounds))
      ≡ bounds_listed l.context l.initial.literals.items l.bounds;
  texts : l.refused ≡ None
      → literals_after_list l.literals.items (drop l.bound-index l.bounds) ≡ literals_after_list l.initial.literals.items l.bounds;
}

abbrev pub decreases-formed : goal.decreases-formed
decreases-formed l = 5 * height (written l.tree.now)

abbrev pub decreases-judged : goal.decreases-judged
decreases-judged l = 5 * height (written l.tree.now) + 1

abbrev pub decreases-value_in : goal.decreases-value_in
decreases-value_in l = 5 * height (written l.tree.now) + 2

abbrev pub decreases-operand_in : goal.decreases-operand_in
decreases-operand_in l = 5 * height (written l.tree.now) + 2

abbrev pub decreases-step : goal.decreases-step
decreases-step l = 5 * height (written l.object.now) + 3

abbrev pub decreases-cast : goal.decreases-cast
decreases-cast l = 5 * height (written l.operand.now) + 3

abbrev pub decreases-infix : goal.decreases-infix
decreases-infix l = 5 * max (height (written l.left.now)) (height (written l.right.now)) + 3

abbrev pub decreases-subscript : goal.decreases-subscript
decreases-subscript l = 5 * max (height (written l.left.now)) (height (written l.right.now)) + 3

abbrev pub decreases-select : goal.decreases-select
decreases-select l = 5 * max (height (written l.test.now)) (max (height (written l.one.now)) (height (written l.other.now))) + 3

abbrev pub decreases-store : goal.decreases-store
decreases-store l = 5 * max (height (written l.object.now)) (height (written l.value.now)) + 3

abbrev pub decreases-arguments_of : goal.decreases-arguments_of
decreases-arguments_of l = 5 * highest (written_list l.arguments.now) + 3

abbrev pub decreases-bounds_of : goal.decreases-bounds_of
decreases-bounds_of l = 5 * highest (written_list l.bounds.now) + 3

abbrev pub decreases-call : goal.decreases-call
decreases-call l = 5 * max (height (written l.function.now)) (1 + highest (written_list l.arguments.now)) + 4

abbrev pub decreases-size_of_type : goal.decreases-size_of_type
decreases-size_of_type l = 5 * max 1 (highest (written_list l.bounds.now)) + 4
