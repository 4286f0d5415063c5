use Rattle.std.proofs.Common.{◌≡◌, ◌+◌, ◌<◌, ◌∷◌, length, get_or, vec_len, length-append, arith, sym, ap, ◌∙◌}
use Rattle.cs_types.specs.Shape.{shape_of}
use Rattle.cs_ast.specs.TypedView.{typed}
use Rattle.cs_scopes.specs.Verdicts.{Fault}
use Rattle.cs_expressions.specs.Conversions.{converted}
use Rattle.cs_expressions.proofs.ArgumentConversions.{one_less, value_refused}
use Rattle.cs_expressions.proofs.calls.converted_list.Goals as goal

pub loop-value-preserved : goal.loop-value-preserved
loop-value-preserved c =
    let one : vec_len c.loop-value.left ≡ vec_len c.pop.new.self + 1 = omega (arith, c.in-Some.ensures.cases) in
    let lengths : length c.args.values.items ≡ length c.loop-value.left.items + length c.loop-value.invariant.following =
    ap length c.loop-value.invariant.split ∙ length-append c.loop-value.left.items c.loop-value.invariant.following in
    let within : vec_len c.pop.new.self < length c.args.types.now = omega (arith, one, lengths, c.requires, c.args.values.ok.0, c.loop-value.left.ok.0) in
    let read : c.index-types-len.result ≡ get_or c.args.types.now (vec_len c.pop.new.self) c.index-types-len.result = c.index-types-len.is
    ∙ ap (λ i. get_or c.args.types.now i c.index-types-len.result) c.len.ensures in
    let reported : converted c.args.model c.args.place (typed c.in-Some.value) (shape_of c.index-types-len.result) (shape_of c.in-Some.value.ty)
    ≡ Fault c.in-Err-Code.code c.in-Err-Code.field-0-1 = rw c.in-Err-Code.field-0-is at c.in-Err-Code.ensures in
    record {
      following = c.in-Some.value ∷ c.loop-value.invariant.following;
      split = one_less c.args.values.items c.loop-value.left.items c.pop.new.self.items c.loop-value.invariant.following c.in-Some.value
          c.loop-value.invariant.split c.in-Some.ensures.items;
      so_far = value_refused c.args.model c.args.place c.args.types.now (vec_len c.pop.new.self) (vec_len c.loop-value.left) c.index-types-len.result
          c.in-Some.value c.loop-value.invariant.following c.loop-value.list.items c.loop-value.refused one within read c.loop-value.invariant.so_far
          c.in-Err-Code.code c.in-Err-Code.field-0-1 reported ∙ ap (λ code. Fault code c.args.place) (sym c.least.ensures);
    }
