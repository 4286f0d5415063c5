use Rattle.std.proofs.Common.{◌<◌, ◌≤◌, List, Some, length, refl, ap, rules}
use Rattle.cs_ast.specs.TypedProgram.{FileObject, file_object}
use Rattle.cs_ast.specs.TypedView.{initial}
use Rattle.cs_file_scope.specs.Objects.{with_globals, holding}
use Rattle.cs_file_scope.specs.View.{filed_of}
use Rattle.cs_file_scope.proofs.ChangedParts.{changed_at, changed_past}
use Rattle.cs_file_scope.proofs.filed.Filed.hold.Goals as goal

pub returns-in-Some : goal.returns-in-Some
returns-in-Some c =
    let all = c.args.self.now.globals.items in
    let global = c.in-Some.global.now in
    let within : c.args.number < length all = search rules in
    ap (λ (gs : List FileObject). with_globals gs (filed_of c.args.self.now))
    (changed_at file_object (holding (initial c.args.found)) all c.args.number global (record global { initial = Some c.args.found }) within
    c.in-Some.ensures.value refl)

pub returns-in_default : goal.returns-in_default
returns-in_default c =
    let all = c.args.self.now.globals.items in
    let past : length all ≤ c.args.number = search rules in
    ap (λ (gs : List FileObject). with_globals gs (filed_of c.args.self.now))
    (changed_past file_object (holding (initial c.args.found)) all c.args.number past)
