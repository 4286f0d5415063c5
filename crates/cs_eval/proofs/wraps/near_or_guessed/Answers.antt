use Rattle.std.proofs.Common.{rules, ◌≡◌, inl, ℤ, sym, subst, ◌∙◌, to_z, of_z, Vec, Global}
use Rattle.std.specs.Int.{w128}
use Rattle.std.proofs.lemmas.Int.{to_z-of_z}
use Rattle.std.proofs.lemmas.Bool.{false≢true}
use Rattle.cs_types.specs.Wrap.{wrap_quotient}
use Rattle.cs_terms.specs.Pieces.{IsFar}
use Rattle.cs_eval.specs.declared.piece.Piece.{Piece}
use Rattle.cs_eval.proofs.TwoWays.{if_ok_both}
use Rattle.cs_eval.proofs.wraps.near_or_guessed.Goals as goal

pub returns : goal.returns
returns c =
    let quotient = wrap_quotient c.args.setting.now.model c.args.ty c.args.number in
    let number = to_z-of_z w128 c.args.number c.ranges.number in
    let same : to_z w128 (of_z w128 c.quotient.result) ≡ c.quotient.result = search rules in
    let value : c.quotient.result ≡ quotient = rw number at c.quotient.ensures.value in
    let near : ¬ IsFar quotient = λ far.
    false≢true (sym c.if-is_far.false ∙ c.is_far.ensures.1 (subst (λ (n : ℤ). IsFar n) (sym (same ∙ value)) far)) in
    if_ok_both {X = Vec Piece Global} _ _ _ _
    (λ (pieces : Vec Piece Global). λ made. λ inhabited. inl (record { made = made; near = near; inhabited = inhabited }))
    (rw number at c.constant_piece.ensures.piece) c.constant_piece.ensures.inhabited
