use Rattle.std.proofs.Common.{◌≡◌, ℕ, ◌≤◌, List, length, map, ap, ◌∙◌, arith}
use Rattle.std.proofs.lemmas.List.{take_all}
use Rattle.cs_types.specs.declared.ctype.CType.{CType}
use Rattle.cs_types.specs.Shape.{Shape, shape_of}
use Rattle.cs_ast.specs.declared.typed.program.Local.{Local}
use Rattle.cs_ast.specs.TypedProgram.{variable}
use Rattle.cs_scopes.specs.declared.scope.Callee.TheVariants.{Numbered}
use Rattle.cs_scopes.specs.Meanings.{Signature}
use Rattle.cs_file_scope.specs.Functions.{types_of}
use Rattle.cs_file_scope.proofs.ParameterTypes.{types_of-variables}
use Rattle.cs_file_scope.proofs.functions.signature.Goals as goal

abbrev signature_with : ℕ → Shape → List Shape → Signature
signature_with number result parameters = record { callee = Numbered number; result = result; parameters = parameters }

pub returns : goal.returns
returns c =
    let all = c.args.parameters.now in
    let past : length all ≤ c.loop-parameter.parameter-index = omega arith in
    let types : map (λ (ty : CType). shape_of ty) c.loop-parameter.types.items ≡ types_of (map variable all) =
    c.loop-parameter.invariant ∙ ap (map (λ (p : Local). shape_of p.ty)) (take_all c.loop-parameter.parameter-index all past) ∙ types_of-variables all in
    ap (λ (result : Shape). signature_with c.args.number result (map (λ (ty : CType). shape_of ty) c.loop-parameter.types.items)) c.in_ok-copy-2.ensures
    ∙ ap (signature_with c.args.number (shape_of c.args.returns.now)) types
