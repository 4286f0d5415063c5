use Rattle.std.proofs.Common.{◌∙◌, sym, ap, map}
use Rattle.std.proofs.lemmas.List.{take_min, take-map}
use Rattle.cs_ast.specs.TypedProgram.{variable}
use Rattle.cs_engine.proofs.entry.parameters_of.Goals as goal

pub returns : goal.returns
returns c =
    rw (c.min-count.ensures, c.as_slice-locals.ensures.value)
    (ap (map variable) (take_min c.args.function.now.parameters c.args.function.now.locals.items)
    ∙ sym (take-map variable c.args.function.now.parameters c.args.function.now.locals.items))
