use Rattle.std.proofs.Common.{◌≡◌, length, sym, ◌∙◌}
use Rattle.cs_declarations.proofs.WrittenLists.{elements_given-List}
use Rattle.cs_declarations.proofs.forms.elements_given.Goals as goal

pub returns-in-List : goal.returns-in-List
returns-in-List c =
    let counted : c.len.result ≡ length c.in-List.items.items = c.len.ensures ∙ c.in-List.items.ok.0 in
    counted ∙ sym (elements_given-List c.args.written.now c.in-List.items c.in-List.field-1 c.in-List.is)
