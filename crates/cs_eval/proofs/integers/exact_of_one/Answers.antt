use Rattle.std.proofs.Common.{subst, sym}
use Rattle.std.proofs.lemmas.Result.{IfOk-weaker}
use Rattle.cs_ast.specs.declared.typed.operator.UnOp.{UnOp}
use Rattle.cs_terms.specs.declared.term.Lin.{Lin}
use Rattle.cs_eval.specs.Wraps.{IsExactOfOne}
use Rattle.cs_eval.proofs.Conversions.{negative_of, complement_of}
use Rattle.cs_eval.proofs.integers.exact_of_one.Goals as goal

pub returns-in-Negate : goal.returns-in-Negate
returns-in-Negate c =
    subst (λ (op : UnOp). IsExactOfOne op c.args.term c.scale-negative.result) (sym c.in-Negate.is)
    (negative_of c.args.term c.scale-negative.result c.scale-negative.ensures.value c.scale-negative.ensures.symbol)

pub returns-in-Complement : goal.returns-in-Complement
returns-in-Complement c =
    IfOk-weaker {X = Lin} _ _ _
    (λ (exact : Lin). λ raised.
    subst (λ (op : UnOp). IsExactOfOne op c.args.term exact) (sym c.in-Complement.is)
    (complement_of c.args.term c.scale-negative.result exact c.scale-negative.ensures.value c.scale-negative.ensures.symbol raised))
    c.moved.ensures
