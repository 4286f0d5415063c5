use Rattle.std.proofs.Common.{◌≡◌, None, ap, length, sym, ◌∙◌}
use Rattle.std.specs.Prelude.{nat_eq}
use Rattle.std.specs.List.{position}
use Rattle.std.specs.Cmp.Lexicographic.{pointwise}
use Rattle.cs_lexer.proofs.FilePlaces.{next_number}
use Rattle.cs_lexer.proofs.files.number_in.Goals as goal

pub returns-clause-value : goal.returns-clause-value
returns-clause-value c =
    let none : position (pointwise nat_eq c.args.name) c.args.names.now.items ≡ None = sym (c.requires.numbered.each c.args.name) ∙ sym c.find.ensures
    ∙ c.in_default.is in
    ap length c.as_slice.ensures.value ∙ sym (next_number (pointwise nat_eq c.args.name) c.args.names.now.items none)
