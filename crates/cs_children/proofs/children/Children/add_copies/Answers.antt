use Rattle.std.proofs.Common.{◌≡◌, List, [], length, sym, subst, arith}
use Rattle.std.proofs.lemmas.List.{nil_from_length}
use Rattle.std.proofs.lemmas.Grind.{common_steps}
use Rattle.cs_eval.specs.declared.piece.Piece.{Piece}
use Rattle.cs_pieces.specs.Pieces.{AreOfPieces}
use Rattle.cs_children.proofs.Apart.{adds_none}
use Rattle.cs_children.proofs.children.Children.add_copies.Goals as goal

pub returns-then-is_empty : goal.returns-then-is_empty
returns-then-is_empty c =
    let few : length c.args.pieces.items ≡ 0 = grind (arith, common_steps) in
    let none : c.args.pieces.items ≡ [] = nil_from_length c.args.pieces.items few in (
      [],
      adds_none c.args.self.now,
      subst (λ (pieces : List Piece). AreOfPieces c.args.exploration.now.rules.now c.args.before.now c.args.place c.args.guess pieces []) (sym none) tt,
    )
