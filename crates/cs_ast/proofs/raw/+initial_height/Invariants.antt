use Rattle.std.proofs.Common.{◌≡◌, max, drop}
use Rattle.cs_ast.specs.RawDeclarationView.{initials_list}
use Rattle.cs_ast.specs.RawFileHeight.{initials_height}
use Rattle.cs_ast.proofs.raw.+initial_height.Given as goal

abbrev pub invariant-declaration_height::highest_initial-loop-item :
    goal.invariant-declaration_height::highest_initial-loop-item
invariant-declaration_height::highest_initial-loop-item l =
    max l.best (initials_height (initials_list (drop l.item-index l.items))) ≡ initials_height (initials_list l.items)
