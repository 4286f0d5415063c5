use Rattle.std.proofs.Common.{Some, ◌∙◌, sym, ap}
use Rattle.cs_types.specs.Shape.{shape_of}
use Rattle.cs_scopes.specs.Faults.{least}
use Rattle.cs_scopes.specs.declared.refusal.TypeCode.TheVariants.{Initializer}
use Rattle.cs_declarations.specs.Initializers.{initial_read, initial_fault}
use Rattle.cs_declarations.specs.View as view
use Rattle.cs_declarations.specs.View.{reading}
use Rattle.cs_declarations.proofs.FaultsSoFar.{initial_fault-List, same_code, unless_memory-then}
use Rattle.cs_declarations.proofs.initials.form_refused.Goals as goal

pub returns-in_default : goal.returns-in_default
returns-in_default c =
    let context = c.args.context.now in
    let ls = c.args.literals.now.items in
    let stands = view.storage c.args.storage in
    let ty = shape_of c.args.ty.now in
    let written = c.args.written.now in
    let following = c.item_read-read.new.literals.items in
    let read = initial_read context ls ty written in
    let listed = initial_fault-List context stands c.args.place ls ty written c.in_default.field-0 c.in_default.field-1 c.in_default.is in
    same_code read c.args.place (Some c.least.result) (Some (least Initializer (initial_fault context ls stands c.args.place ty written)))
    c.item_read-read.result c.unless_fault.result following
    (unless_memory-then c.item_read-read.result (λ e. ap Some (c.least.ensures ∙ ap (least Initializer) (e ∙ sym listed)))
    (c.item_read-read.ensures.codes c.args.place))
    c.unless_fault.ensures.memory (c.unless_fault.ensures.answers read following c.item_read-read.ensures.values)
