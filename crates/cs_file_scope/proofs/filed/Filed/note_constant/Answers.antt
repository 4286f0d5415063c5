use Rattle.std.proofs.Common.{◌≡◌, ◌<◌, ◌≤◌, Bool, List, length, ap, rules}
use Rattle.std.specs.Prelude.{◌||◌}
use Rattle.cs_ast.specs.TypedProgram.{FileObject, file_object}
use Rattle.cs_file_scope.specs.Objects.{with_globals, made_constant}
use Rattle.cs_file_scope.specs.View.{filed_of}
use Rattle.cs_file_scope.proofs.ChangedParts.{changed_at, changed_past}
use Rattle.cs_file_scope.proofs.filed.Filed.note_constant.Goals as goal
use Rattle.cs_file_scope.proofs.filed.Filed.note_constant.Goals.{then-global, else-global}

pub returns-after-global : goal.returns-after-global
returns-after-global c =
    let all = c.args.self.now.globals.items in
    let global = c.in-Some.global.now in
    let within : c.args.number < length all = search rules in
    let either : c.if-global.global ≡ (global.constant || c.args.constant) =
    elim c.if-global.branch [ then-global w ↦ search rules | else-global w ↦ search rules ] in
    ap (λ (gs : List FileObject). with_globals gs (filed_of c.args.self.now))
    (changed_at file_object (made_constant c.args.constant) all c.args.number global (record global { constant = c.if-global.global }) within
    c.in-Some.ensures.value (ap (λ (b : Bool). file_object (record global { constant = b })) either))

pub returns-in_default : goal.returns-in_default
returns-in_default c =
    let all = c.args.self.now.globals.items in
    let past : length all ≤ c.args.number = search rules in
    ap (λ (gs : List FileObject). with_globals gs (filed_of c.args.self.now)) (changed_past file_object (made_constant c.args.constant) all c.args.number past)
