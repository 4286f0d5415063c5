use Rattle.std.proofs.Common.{rules, arith}
use Rattle.cs_ast.specs.declared.raw.declaration.RawInitial.{the_lemmas}
use Rattle.cs_ast.proofs.HeightsOfNodes.{initial_height-List}
use Rattle.cs_ast.proofs.raw.+initial_height.Goals as goal

pub declaration::RawInitial::height-highest_initial-requires :
    goal.declaration::RawInitial::height-highest_initial-requires
declaration::RawInitial::height-highest_initial-requires t c =
    let e = initial_height-List c.in-List.items c.in-List.field-1 c.in-List.is in
    (search (rules, the_lemmas), grind arith)

pub declaration::RawInitial::height-overflow_add-result :
    goal.declaration::RawInitial::height-overflow_add-result
declaration::RawInitial::height-overflow_add-result t c =
    let e = initial_height-List c.in-List.items c.in-List.field-1 c.in-List.is in
    grind arith

pub declaration::RawInitial::height-returns-in-List :
    goal.declaration::RawInitial::height-returns-in-List
declaration::RawInitial::height-returns-in-List t c =
    let e = initial_height-List c.in-List.items c.in-List.field-1 c.in-List.is in
    grind arith
