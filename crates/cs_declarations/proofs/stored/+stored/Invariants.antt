use Rattle.std.proofs.Common.{◌≡◌, ◌+◌, ◌*◌, ◌≤◌, drop, Some}
use Rattle.cs_ast.specs.declared.raw.declaration.RawInitial.{size-RawInitial}
use Rattle.cs_declarations.specs.Initializers.{list_stored, together}
use Rattle.cs_scopes.specs.Parts.{types_of}
use Rattle.cs_declarations.proofs.stored.+stored.Given as goal

abbrev pub decreases-stored : goal.decreases-stored
decreases-stored l = 2 * size-RawInitial l.written.now

abbrev pub decreases-stored_parts : goal.decreases-stored_parts
decreases-stored_parts l = 2 * goal.size-stored_parts l + 1

abbrev pub invariant-stored_parts-loop-item : goal.invariant-stored_parts-loop-item
invariant-stored_parts-loop-item l = record {
  same : l.number ≡ l.item-index;
  few : l.all ≤ 4096;
  so_far : together (Some l.all) (list_stored l.table.list (drop l.item-index (types_of l.parts)) (drop l.item-index l.items))
      ≡ list_stored l.table.list (types_of l.parts) l.items;
}
