use Rattle.std.proofs.Common.{◌≡◌, ℕ, drop, map, subst, arith}
use Rattle.cs_ast.specs.TypedProgram.{typed_program, routine}
use Rattle.cs_objects.specs.BlockView.{piece_of}
use Rattle.cs_lower.specs.Building.{built_of, point_of}
use Rattle.cs_lower.specs.Statements.{StoresPieces}
use Rattle.cs_lower.proofs.Declaring.{stored_further}
use Rattle.cs_lower.proofs.context.Lowering.lower_pieces.Goals as goal

pub loop-left-preserved : goal.loop-left-preserved
loop-left-preserved c = record {
  within = omega arith;
  made = stored_further c.args.pieces.now c.loop-left.left c.index-pieces-left.result (omega arith) c.loop-left.invariant.within c.index-pieces-left.is
      c.loop-left.invariant.made c.in_ok-made.ensures;
}

pub returns : goal.returns
returns c =
    let none : c.loop-left.left ≡ 0 = omega arith in
    subst (λ (k : ℕ).
    StoresPieces (typed_program c.args.self.now.program.now) (routine c.args.self.now.function.now) c.args.place c.args.declaration
    (map piece_of (drop k c.args.pieces.now)) (built_of c.args.graph.now) (built_of c.loop-left.graph) (point_of c.loop-left.made)
    (point_of c.args.following)) none c.loop-left.invariant.made
