use Rattle.std.proofs.Common.{ap, sym, ◌∙◌}
use Rattle.cs_ast.specs.declared.typed.program.Function.{Function}
use Rattle.cs_report_parts.proofs.Names.{name_at}
use Rattle.cs_report_parts.proofs.name.function_name.Goals as goal

pub returns-in-Some : goal.returns-in-Some
returns-in-Some c =
    let found = rw c.deref.ensures.value at c.in-Some.ensures.lookup in
    c.as_bytes.ensures ∙ ap (λ (f : Function). f.name) found.1
    ∙ sym (name_at c.args.program.now.functions.items c.args.number c.in-Some.function.now found.3.0)
