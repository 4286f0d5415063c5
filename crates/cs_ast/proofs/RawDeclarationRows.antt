-- The words, members and items within written declarations as lists: for the heights, and for every crate that walks written
-- trees.
use Rattle.std.proofs.Common.{◌≡◌, Bool, map, refl, sym, ap, ◌∙◌, Vec, Global, Option}
use mathlib.Core.Former.{Count}
use Rattle.cs_ast.specs.declared.raw.declaration.RawMember.{RawMember}
use Rattle.cs_ast.specs.declared.raw.declaration.SpecWord as words
use Rattle.cs_ast.specs.declared.raw.declaration.SpecWord.{SpecWord}
use Rattle.cs_ast.specs.declared.raw.declaration.RawInitial as first_value
use Rattle.cs_ast.specs.declared.raw.declaration.RawInitial.{RawInitial}
use Rattle.cs_ast.specs.RawDeclarations.{MoreSpecs, StructBody, MoreMembers, Listed, MoreItems}
use Rattle.cs_ast.specs.RawDeclarationView.{declarator, spec, specs_row, specs_list, members, members_list, initial, initials, initials_list}

pub specs-row : (n : _) (row : words.Row_of-SpecWord n) → specs_list (words.items-the_row-SpecWord n row) ≡ specs_row row
specs-row n words.end_of-SpecWord = refl
specs-row n (words.more_of-SpecWord first others) = ap (MoreSpecs (spec first)) (specs-row _ others)

pub members-row : (n : _) (row : words.Row_of-RawMember n) → members_list (words.items-the_row-RawMember n row) ≡ members row
members-row n words.end_of-RawMember = refl
members-row n (words.more_of-RawMember shape row tag declarators others) =
    let rest = members_list (words.items-the_row-RawMember _ others) in
    ap (λ s. MoreMembers s (map declarator declarators.items) rest) (ap specs_list (words.items_shown-the_row-SpecWord-0 shape row) ∙ specs-row _ row)
    ∙ ap (MoreMembers (specs_row row) (map declarator declarators.items)) (members-row _ others)

-- the members of a struct, as a row
abbrev members_of : SpecWord → (n : Count) × words.Row_of-RawMember n
members_of (words.TheVariants.Struct' tag shape row) = (_, row)
members_of _ = (_, words.end_of-RawMember)

pub spec-Struct : (tag : Option _) (list : Vec RawMember Global) → spec (words.TheVariants.Struct tag list) ≡ StructBody tag (members_list list.items)
spec-Struct tag list =
    let row = members_of (words.TheVariants.Struct tag list) in
    ap (StructBody tag) (sym (members-row row.0 row.1) ∙ ap members_list (words.items_hidden-the_row-RawMember-1 list))

pub initials-row : (n : _) (row : first_value.Row_of-RawInitial n) → initials_list (first_value.items-the_row-RawInitial n row) ≡ initials row
initials-row n first_value.end_of-RawInitial = refl
initials-row n (first_value.more_of-RawInitial first others) = ap (MoreItems (initial first)) (initials-row _ others)

-- the items between braces, as a row
abbrev items_of : RawInitial → (n : Count) × first_value.Row_of-RawInitial n
items_of (first_value.TheVariants.List' shape row comma) = (_, row)
items_of _ = (_, first_value.end_of-RawInitial)

pub initial-List : (list : Vec RawInitial Global) (comma : Bool)
    → initial (first_value.TheVariants.List list comma) ≡ Listed (initials_list list.items) comma
initial-List list comma =
    let row = items_of (first_value.TheVariants.List list comma) in
    ap (λ i. Listed i comma) (sym (initials-row row.0 row.1) ∙ ap initials_list (first_value.items_hidden-the_row-RawInitial-0 list))
