use Rattle.std.proofs.Common.{◌≡◌, ◌+◌, ◌*◌, drop}
use Rattle.cs_ast.specs.declared.raw.declaration.RawInitial.{size-RawInitial}
use Rattle.cs_declarations.specs.Initializers.{list_has_forms}
use Rattle.cs_declarations.specs.View as view
use Rattle.cs_scopes.specs.Parts.{types_of}
use Rattle.cs_declarations.proofs.forms.+forms.Given as goal

abbrev pub decreases-has_form : goal.decreases-has_form
decreases-has_form l = 2 * size-RawInitial l.written.now

abbrev pub decreases-have_forms : goal.decreases-have_forms
decreases-have_forms l = 2 * goal.size-have_forms l + 1

abbrev pub invariant-have_forms-loop-item : goal.invariant-have_forms-loop-item
invariant-have_forms-loop-item l = record {
  same : l.number ≡ l.item-index;
  so_far : list_has_forms l.table.list (view.storage l.storage) (drop l.item-index (types_of l.parts)) (drop l.item-index l.items)
      ≡ list_has_forms l.table.list (view.storage l.storage) (types_of l.parts) l.items;
}
