use Rattle.std.proofs.Common.{◌<◌, ◌≤◌, length, refl, rules}
use Rattle.cs_ast.specs.TypedProgram.{routine}
use Rattle.cs_file_scope.proofs.ChangedParts.{changed_at, changed_past}
use Rattle.cs_file_scope.proofs.functions.put.Goals as goal

pub returns-in-Some : goal.returns-in-Some
returns-in-Some c =
    let all = c.args.functions.now.items in
    let blank = c.in-Some.blank.now in
    let function = c.args.function in
    let within : c.args.number < length all = search rules in
    changed_at routine (λ before. routine function) all c.args.number blank function within c.in-Some.ensures.value refl

pub returns-in_default : goal.returns-in_default
returns-in_default c =
    let all = c.args.functions.now.items in
    let function = c.args.function in
    let past : length all ≤ c.args.number = search rules in
    changed_past routine (λ before. routine function) all c.args.number past
