use Rattle.std.proofs.Common.{◌≡◌, ◌+◌, ◌*◌, drop}
use Rattle.cs_ast.specs.declared.place.Place.{Place}
use Rattle.cs_ast.specs.declared.raw.declaration.RawInitial.{size-RawInitial}
use Rattle.cs_scopes.specs.Verdicts.{lift}
use Rattle.cs_scopes.specs.Faults.{least_code, unless_stopped}
use Rattle.cs_declarations.specs.Initializers.{list_read, list_fault}
use Rattle.cs_declarations.specs.View as view
use Rattle.cs_scopes.specs.Parts.{types_of}
use Rattle.cs_declarations.proofs.ValuesSoFar.{following}
use Rattle.cs_declarations.proofs.initials.+initials.Given as goal

abbrev pub decreases-item_read : goal.decreases-item_read
decreases-item_read l = 2 * size-RawInitial l.written.now

abbrev pub decreases-items_read : goal.decreases-items_read
decreases-items_read l = 2 * goal.size-items_read l + 1

abbrev pub invariant-items_read-loop-i : goal.invariant-items_read-loop-i
invariant-items_read-loop-i l = record {
  values : unless_stopped l.refused (lift (following l.list.items) (list_read l.context l.literals.items (drop l.i (types_of l.parts)) (drop l.i l.items)))
      ≡ list_read l.context l.initial.literals.items (types_of l.parts) l.items;
  codes : (at : Place)
      → least_code l.fault (list_fault l.context l.literals.items (view.storage l.storage) at (drop l.i (types_of l.parts)) (drop l.i l.items))
      ≡ least_code l.initial.fault (list_fault l.context l.initial.literals.items (view.storage l.storage) at (types_of l.parts) l.items);
}
