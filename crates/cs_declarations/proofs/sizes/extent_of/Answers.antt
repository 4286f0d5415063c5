use Rattle.std.proofs.Common.{◌≡◌, rules, Err, sym, subst}
use Rattle.cs_types.specs.Shape.{shape_of}
use Rattle.cs_scopes.specs.Verdicts.{Answers}
use Rattle.cs_declarations.specs.Sizes.{extent_of}
use Rattle.cs_declarations.specs.View.{extent}
use Rattle.cs_declarations.proofs.FirstBounds.{extent_stops, extent_goes_on}
use Rattle.cs_declarations.proofs.sizes.extent_of.Goals as goal

pub returns-in_err-element-in-len1-up : goal.returns-in_err-element-in-len1-up
returns-in_err-element-in-len1-up c =
    let base = shape_of c.args.base in
    let e : c.from_residual.result ≡ Err c.in_err-element-in-len1-up.field-0.0 = search rules in
    subst (Answers extent (extent_of c.args.context.now c.args.place base c.args.sizes.now)) (sym e)
    (extent_stops c.args.context.now c.args.place base c.args.sizes.now c.in-len1-up.len_at_least c.in_err-element-in-len1-up.field-0.0
    c.in_err-element-in-len1-up.ensures)

pub returns-in_ok-element-in-len1-up : goal.returns-in_ok-element-in-len1-up
returns-in_ok-element-in-len1-up c =
    let base = shape_of c.args.base in
    let element = shape_of c.in_ok-element-in-len1-up.element in
    subst (λ v. Answers extent v c.outermost.result)
    (sym (extent_goes_on c.args.context.now c.args.place base c.args.sizes.now c.in-len1-up.len_at_least element c.in_ok-element-in-len1-up.ensures))
    c.outermost.ensures
