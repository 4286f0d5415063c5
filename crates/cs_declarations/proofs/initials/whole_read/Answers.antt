use Rattle.std.proofs.Common.{ap, ◌∙◌}
use Rattle.cs_types.specs.Shape.{shape_of}
use Rattle.cs_scopes.specs.Faults.{least_code}
use Rattle.cs_declarations.specs.Initializers.{initial_read, scalar_limit, whole_fault}
use Rattle.cs_declarations.specs.View as view
use Rattle.cs_declarations.proofs.FaultsSoFar.{same_code, unless_memory-then}
use Rattle.cs_declarations.proofs.initials.whole_read.Goals as goal

pub returns : goal.returns
returns c =
    let context = c.args.context.now in
    let ls = c.args.literals.now.items in
    let stands = view.storage c.args.storage in
    let ty = shape_of c.args.ty.now in
    let written = c.args.written.now in
    let said = whole_fault context ls stands c.args.place ty written in
    let following = c.values_read-read.new.literals.items in
    let read = initial_read context ls ty written in
    same_code read c.args.place c.values_read-read.new.fault (least_code (scalar_limit context.table.list stands ty written) said)
    c.values_read-read.result c.unless_fault.result following
    (unless_memory-then c.values_read-read.result (λ e. e ∙ ap (λ f. least_code f said) c.scalar_limit-fault.ensures)
    (c.values_read-read.ensures.codes c.args.place))
    c.unless_fault.ensures.memory (c.unless_fault.ensures.answers read following c.values_read-read.ensures.values)
