use Rattle.std.proofs.Common.{rules, arith}
use Rattle.cs_ast.specs.declared.raw.statement.RawItem.{the_lemmas}
use Rattle.cs_ast.proofs.HeightsOfNodes.{sentence_height-Block, sentence_height-Switch}
use Rattle.cs_ast.proofs.raw.+statement_height.Goals as goal

pub statement::RawStmt::height-highest_item-requires :
    goal.statement::RawStmt::height-highest_item-requires
statement::RawStmt::height-highest_item-requires t c =
    let e = sentence_height-Block c.in-Block.items c.in-Block.is in
    (search (rules, the_lemmas), grind arith)

pub statement::RawStmt::height-overflow_add-result :
    goal.statement::RawStmt::height-overflow_add-result
statement::RawStmt::height-overflow_add-result t c =
    let e = sentence_height-Block c.in-Block.items c.in-Block.is in
    grind arith

pub statement::RawStmt::height-highest_switch_item-requires :
    goal.statement::RawStmt::height-highest_switch_item-requires
statement::RawStmt::height-highest_switch_item-requires t c =
    let e = sentence_height-Switch c.in-Switch.value c.in-Switch.items c.in-Switch.is in
    (search (rules, the_lemmas), grind arith)

pub statement::RawStmt::height-overflow_add-highest_switch_item :
    goal.statement::RawStmt::height-overflow_add-highest_switch_item
statement::RawStmt::height-overflow_add-highest_switch_item t c =
    let e = sentence_height-Switch c.in-Switch.value c.in-Switch.items c.in-Switch.is in
    grind arith

pub statement::RawStmt::height-overflow_add-result-in-Switch :
    goal.statement::RawStmt::height-overflow_add-result-in-Switch
statement::RawStmt::height-overflow_add-result-in-Switch t c =
    let e = sentence_height-Switch c.in-Switch.value c.in-Switch.items c.in-Switch.is in
    grind arith

pub statement::RawStmt::height-returns-in-Block :
    goal.statement::RawStmt::height-returns-in-Block
statement::RawStmt::height-returns-in-Block t c =
    let e = sentence_height-Block c.in-Block.items c.in-Block.is in
    grind arith

pub statement::RawStmt::height-returns-in-Switch :
    goal.statement::RawStmt::height-returns-in-Switch
statement::RawStmt::height-returns-in-Switch t c =
    let e = sentence_height-Switch c.in-Switch.value c.in-Switch.items c.in-Switch.is in
    grind arith
