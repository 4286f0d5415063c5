use Rattle.std.proofs.Common.{sym, ap, ◌∙◌}
use Rattle.cs_types.specs.Shape.{shape_of}
use Rattle.cs_scopes.specs.Faults.{least_code}
use Rattle.cs_declarations.specs.Initializers.{whole_fault}
use Rattle.cs_declarations.specs.View as view
use Rattle.cs_declarations.proofs.FaultsSoFar.{whole_fault-List, unless_memory-then}
use Rattle.cs_declarations.proofs.initials.values_read.Goals as goal

pub returns-in-Value-clause-codes : goal.returns-in-Value-clause-codes
returns-in-Value-clause-codes c = λ at.
    unless_memory-then c.single_read.result
    (λ e. e
    ∙ ap (least_code c.args.fault.now)
    (sym (ap (whole_fault c.args.context.now c.args.literals.now.items (view.storage c.args.storage) at (shape_of c.args.ty.now)) c.in-Value.is)))
    (c.single_read.ensures.codes at)

pub returns-in-List-clause-codes : goal.returns-in-List-clause-codes
returns-in-List-clause-codes c = λ at.
    unless_memory-then c.item_read.result
    (λ e. e
    ∙ ap (least_code c.args.fault.now)
    (sym (whole_fault-List c.args.context.now (view.storage c.args.storage) at c.args.literals.now.items (shape_of c.args.ty.now) c.args.written.now
    c.in-List.field-0 c.in-List.field-1 c.in-List.is))) (c.item_read.ensures.codes at)
