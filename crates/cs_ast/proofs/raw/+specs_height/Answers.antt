use Rattle.std.proofs.Common.{rules, arith}
use Rattle.cs_ast.specs.declared.raw.declaration.SpecWord.{the_lemmas}
use Rattle.cs_ast.proofs.HeightsOfNodes.{spec_height-Struct}
use Rattle.cs_ast.proofs.raw.+specs_height.Goals as goal

pub declaration::SpecWord::height-highest_member-requires :
    goal.declaration::SpecWord::height-highest_member-requires
declaration::SpecWord::height-highest_member-requires t c =
    let e = spec_height-Struct c.in-Struct.field-0 c.in-Struct.members c.in-Struct.is in
    (search (rules, the_lemmas), grind arith)

pub declaration::SpecWord::height-overflow_add-result :
    goal.declaration::SpecWord::height-overflow_add-result
declaration::SpecWord::height-overflow_add-result t c =
    let e = spec_height-Struct c.in-Struct.field-0 c.in-Struct.members c.in-Struct.is in
    grind arith

pub declaration::SpecWord::height-returns-in-Struct :
    goal.declaration::SpecWord::height-returns-in-Struct
declaration::SpecWord::height-returns-in-Struct t c =
    let e = spec_height-Struct c.in-Struct.field-0 c.in-Struct.members c.in-Struct.is in
    grind arith
