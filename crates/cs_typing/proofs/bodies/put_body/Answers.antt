use Rattle.std.proofs.Common.{◌<◌, ◌≤◌, length, rules}
use Rattle.cs_ast.specs.TypedProgram.{routine}
use Rattle.cs_typing.specs.Functions.{bodied}
use Rattle.cs_file_scope.proofs.ChangedParts.{changed_at, changed_past}
use Rattle.cs_typing.proofs.BodiedFunctions.{with_parts, routine-bodied}
use Rattle.cs_typing.proofs.bodies.put_body.Goals as goal

pub returns-in-Some : goal.returns-in-Some
returns-in-Some c = λ reported variables row.
    let all = c.args.functions.now.items in
    let function = c.in-Some.function.now in
    let head = c.args.head.now in
    let body = c.args.body.now in
    let within : c.args.number < length all = search rules in
    changed_at routine (bodied head body reported) all c.args.number function (with_parts function head body c.args.locals c.in_ok-block.block) within
    c.in-Some.ensures.value
    (routine-bodied function head body c.args.locals c.args.statements c.in_ok-block.block reported c.in_ok-block.ensures.ok variables row)

pub returns-in_default : goal.returns-in_default
returns-in_default c = λ reported variables row.
    let all = c.args.functions.now.items in
    let past : length all ≤ c.args.number = search rules in
    changed_past routine (bodied c.args.head.now c.args.body.now reported) all c.args.number past
