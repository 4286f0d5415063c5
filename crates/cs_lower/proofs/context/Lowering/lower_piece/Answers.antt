use Rattle.std.proofs.Common.{[], ◌∷◌, sym, ap, subst, ◌∙◌}
use Rattle.cs_ast.specs.TypedProgram.{typed_program, routine}
use Rattle.cs_cfg.specs.Graph as graph
use Rattle.cs_cfg.specs.Placing.{does}
use Rattle.cs_objects.specs.BlockView.{piece_of}
use Rattle.cs_lower.specs.Building.{built_of, point_of}
use Rattle.cs_lower.specs.Statements.{StoresPieces}
use Rattle.cs_lower.proofs.Declaring.{text_stored}
use Rattle.cs_lower.proofs.Forms.{if_made}
use Rattle.cs_lower.proofs.context.Lowering.lower_piece.Goals as goal

pub returns-in_ok-bytes-in-Text : goal.returns-in_ok-bytes-in-Text
returns-in_ok-bytes-in-Text c =
    let built = built_of c.args.graph.now in
    let q = point_of c.args.following in
    if_made c.prepend.result
    (λ made is.
    subst (λ p.
    StoresPieces (typed_program c.args.self.now.program.now) (routine c.args.self.now.function.now) c.args.place c.args.declaration (piece_of p ∷ [])
    built built (point_of made) q) (sym c.in-Text.is)
    (text_stored (is ∙ ap (λ bytes. does c.args.place 0 (graph.Spell c.args.declaration c.in-Text.offset bytes) q) c.in_ok-bytes-in-Text.ensures)))
    c.prepend.ensures
