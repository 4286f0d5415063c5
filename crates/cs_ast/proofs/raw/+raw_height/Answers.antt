use Rattle.std.proofs.Common.{rules, arith}
use Rattle.cs_ast.specs.declared.raw.expression.RawExprKind.{the_lemmas}
use Rattle.cs_ast.proofs.HeightsOfNodes.{height-Call, height-SizeOfType, height-Cast}
use Rattle.cs_ast.proofs.raw.+raw_height.Goals as goal

pub expression::RawExpr::height-highest-requires :
    goal.expression::RawExpr::height-highest-requires
expression::RawExpr::height-highest-requires t c =
    let e = height-Call c.in-Call.function c.in-Call.arguments c.in-Call.is in
    (search (rules, the_lemmas), grind arith)

pub expression::RawExpr::height-overflow_add-highest :
    goal.expression::RawExpr::height-overflow_add-highest
expression::RawExpr::height-overflow_add-highest t c =
    let e = height-Call c.in-Call.function c.in-Call.arguments c.in-Call.is in
    grind arith

pub expression::RawExpr::height-overflow_add-result-in-Call :
    goal.expression::RawExpr::height-overflow_add-result-in-Call
expression::RawExpr::height-overflow_add-result-in-Call t c =
    let e = height-Call c.in-Call.function c.in-Call.arguments c.in-Call.is in
    grind arith

pub expression::RawExpr::height-highest-requires-in-SizeOfType :
    goal.expression::RawExpr::height-highest-requires-in-SizeOfType
expression::RawExpr::height-highest-requires-in-SizeOfType t c =
    let e = height-SizeOfType c.in-SizeOfType.field-0 c.in-SizeOfType.bounds c.in-SizeOfType.is in
    (search (rules, the_lemmas), grind arith)

pub expression::RawExpr::height-overflow_add-result-in-SizeOfType :
    goal.expression::RawExpr::height-overflow_add-result-in-SizeOfType
expression::RawExpr::height-overflow_add-result-in-SizeOfType t c =
    let e = height-SizeOfType c.in-SizeOfType.field-0 c.in-SizeOfType.bounds c.in-SizeOfType.is in
    grind arith

pub expression::RawExpr::height-highest-requires-in-Cast :
    goal.expression::RawExpr::height-highest-requires-in-Cast
expression::RawExpr::height-highest-requires-in-Cast t c =
    let e = height-Cast c.in-Cast.field-0 c.in-Cast.bounds c.in-Cast.operand c.in-Cast.is in
    (search (rules, the_lemmas), grind arith)

pub expression::RawExpr::height-overflow_add-result-in-Cast :
    goal.expression::RawExpr::height-overflow_add-result-in-Cast
expression::RawExpr::height-overflow_add-result-in-Cast t c =
    let e = height-Cast c.in-Cast.field-0 c.in-Cast.bounds c.in-Cast.operand c.in-Cast.is in
    grind arith

pub expression::RawExpr::height-returns-in-Call :
    goal.expression::RawExpr::height-returns-in-Call
expression::RawExpr::height-returns-in-Call t c =
    let e = height-Call c.in-Call.function c.in-Call.arguments c.in-Call.is in
    grind arith

pub expression::RawExpr::height-returns-in-SizeOfType :
    goal.expression::RawExpr::height-returns-in-SizeOfType
expression::RawExpr::height-returns-in-SizeOfType t c =
    let e = height-SizeOfType c.in-SizeOfType.field-0 c.in-SizeOfType.bounds c.in-SizeOfType.is in
    grind arith

pub expression::RawExpr::height-returns-in-Cast :
    goal.expression::RawExpr::height-returns-in-Cast
expression::RawExpr::height-returns-in-Cast t c =
    let e = height-Cast c.in-Cast.field-0 c.in-Cast.bounds c.in-Cast.operand c.in-Cast.is in
    grind arith
