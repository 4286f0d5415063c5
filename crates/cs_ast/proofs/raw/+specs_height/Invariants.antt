use Rattle.std.proofs.Common.{◌≡◌, max, drop}
use Rattle.cs_ast.specs.RawDeclarationView.{members_list}
use Rattle.cs_ast.specs.RawFileHeight.{members_height}
use Rattle.cs_ast.specs.RawDeclarationView.{specs_list}
use Rattle.cs_ast.specs.RawFileHeight.{specs_height}
use Rattle.cs_ast.proofs.raw.+specs_height.Given as goal

abbrev pub invariant-declaration_height::highest_member-loop-member :
    goal.invariant-declaration_height::highest_member-loop-member
invariant-declaration_height::highest_member-loop-member l =
    max l.best (members_height (members_list (drop l.member-index l.members))) ≡ members_height (members_list l.members)

abbrev pub invariant-declaration_height::highest_word-loop-word :
    goal.invariant-declaration_height::highest_word-loop-word
invariant-declaration_height::highest_word-loop-word l =
    max l.best (specs_height (specs_list (drop l.word-index l.words))) ≡ specs_height (specs_list l.words)
