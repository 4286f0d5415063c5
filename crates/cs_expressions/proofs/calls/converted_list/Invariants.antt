use Rattle.std.proofs.Common.{◌≡◌, List, ◌++◌, drop, map, reverse}
use Rattle.std.specs.Prelude.{vec_len}
use Rattle.cs_types.specs.declared.ctype.CType.{CType}
use Rattle.cs_types.specs.Shape.{shape_of}
use Rattle.cs_ast.specs.declared.typed.expression.Expr.{Expr}
use Rattle.cs_ast.specs.TypedView.{typed_list}
use Rattle.cs_expressions.specs.Calls.{converted_list}
use Rattle.cs_expressions.specs.Calls.{outcome}
use Rattle.cs_expressions.proofs.calls.converted_list.Given as goal

abbrev pub invariant-loop-value : goal.invariant-loop-value
invariant-loop-value l = record {
  following : List Expr;
  split : l.initial.left.items ≡ l.left.items ++ following;
  so_far : converted_list l.model l.place (map (λ (ty : CType). shape_of ty) (drop (vec_len l.left) l.types)) (typed_list following)
      ≡ outcome l.place l.refused (typed_list (reverse l.list.items));
}

abbrev pub decreases-loop-value : goal.decreases-loop-value
decreases-loop-value l = vec_len l.left
