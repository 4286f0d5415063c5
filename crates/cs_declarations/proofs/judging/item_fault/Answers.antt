use Rattle.std.proofs.Common.{◌≡◌, false, sym, ◌∙◌}
use Rattle.cs_types.specs.Shape.{shape_of}
use Rattle.cs_ast.specs.TypedView.{typed}
use Rattle.cs_declarations.specs.Initializers.{is_braceless}
use Rattle.cs_declarations.specs.View as view
use Rattle.cs_declarations.proofs.KeptConstants.{item_is}
use Rattle.cs_declarations.proofs.judging.item_fault.Goals as goal

pub returns : goal.returns
returns c = λ at.
    let braces : is_braceless (shape_of c.args.ty.now) (shape_of c.args.value.now.ty) ≡ false = sym c.is_braceless.ensures ∙ c.if-is_braceless.false in
    c.value_fault.ensures at
    ∙ sym (item_is c.args.context.now.model (view.storage c.args.storage) at (shape_of c.args.ty.now) (typed c.args.value.now) braces)
