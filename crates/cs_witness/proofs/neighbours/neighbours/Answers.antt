use Rattle.std.proofs.Common.{◌≡◌, ◌≤◌, ℤ, List, [], ◌∷◌, ◌++◌, take, length, sym, ap, ◌∙◌, subst, arith}
use Rattle.std.specs.Prelude.{flat_map}
use Rattle.cs_inputs.specs.declared.path.Path.{Path}
use Rattle.cs_findings.specs.Neighbours.{replaced}
use Rattle.cs_witness.proofs.neighbours.neighbours.Goals as goal

pub add_neighbours-requires : goal.add_neighbours-requires
add_neighbours-requires c =
    let tried = c.in_ok-push.ensures.items ∙ ap (λ (l : List (List (Path × ℤ))). l ++ c.in_ok-copy_inputs.field-0 ∷ []) c.new-tries.ensures.items in
    subst (λ (l : List (List (Path × ℤ))). length l ≤ 64) (sym tried) (omega arith)

pub returns : goal.returns
returns c =
    let tried : c.push.new.self.items ≡ c.args.inputs.now ∷ [] =
    c.in_ok-push.ensures.items ∙ ap (λ (l : List (List (Path × ℤ))). l ++ c.in_ok-copy_inputs.field-0 ∷ []) c.new-tries.ensures.items
    ∙ ap (λ (l : List (Path × ℤ)). l ∷ []) c.in_ok-copy_inputs.ensures in
    c.in_ok-add_neighbours.ensures
    ∙ (λ i. take 64 (tried i ++ flat_map (λ (e : Path × ℤ). replaced c.args.constants.now c.args.inputs.now e.0) (c.list.ensures.value i)))
