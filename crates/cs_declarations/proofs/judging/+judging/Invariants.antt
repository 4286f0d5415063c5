use Rattle.std.proofs.Common.{◌≡◌, ◌+◌, ◌*◌, drop, length}
use Rattle.std.specs.Vec.Iter.{into_iter_items, into_iter_len}
use Rattle.cs_ast.specs.declared.typed.statement.Initial.{size-Initial}
use Rattle.cs_ast.specs.TypedView.{initial_list}
use Rattle.cs_declarations.specs.Initializers.{parts_judged}
use Rattle.cs_declarations.specs.View as view
use Rattle.cs_scopes.specs.Parts.{types_of}
use Rattle.cs_declarations.proofs.JudgedSoFar.{joined}
use Rattle.cs_declarations.proofs.judging.+judging.Given as goal

abbrev pub decreases-part_judged : goal.decreases-part_judged
decreases-part_judged l = 2 * size-Initial l.part

abbrev pub decreases-parts_judged : goal.decreases-parts_judged
decreases-parts_judged l = 2 * goal.size-parts_judged l + 1

abbrev pub invariant-parts_judged-loop-item : goal.invariant-parts_judged-loop-item
invariant-parts_judged-loop-item l = record {
  counted : l.number + length (into_iter_items l.item-iterator) ≡ length l.fn.items.items;
  lengths : into_iter_len l.item-iterator ≡ length (into_iter_items l.item-iterator);
  so_far : joined l.place l.wrong l.list.items
      (parts_judged l.context (view.storage l.storage) l.place (drop l.number (types_of l.parts)) (initial_list (into_iter_items l.item-iterator)))
      ≡ parts_judged l.context (view.storage l.storage) l.place (types_of l.parts) (initial_list l.fn.items.items);
}
