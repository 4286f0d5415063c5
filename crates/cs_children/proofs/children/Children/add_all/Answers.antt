use Rattle.std.proofs.Common.{List, [], ◌∷◌, ◌++◌, sym, subst}
use Rattle.std.proofs.lemmas.Result.{on_ok_weaker}
use Rattle.cs_eval.specs.declared.piece.Piece.{Piece}
use Rattle.cs_state.specs.declared.state.State.{State}
use Rattle.cs_pieces.specs.Pieces.{IsOfPiece, AreOfPieces}
use Rattle.cs_children.proofs.Apart.{adds_on, matches_on}
use Rattle.cs_children.proofs.children.Children.add_all.Goals as goal

pub returns : goal.returns
returns c =
    let (made, adds, match) = c.in_ok-add_copies.ensures in
    let last = c.in-Some.last in
    let rules = c.args.exploration.now.rules.now in
    let copied : AreOfPieces rules c.args.before.value c.args.place c.args.guess c.pop.new.self.items made =
    subst (λ (state : State). AreOfPieces rules state c.args.place c.args.guess c.pop.new.self.items made) c.deref.ensures match in
    on_ok_weaker c.add.result (λ more. (
      made ++ more.0,
      adds_on c.args.self.now c.add_copies.new.self c.add.new.self made more.0 [] [] adds more.1,
      subst (λ (pieces : List Piece). AreOfPieces rules c.args.before.value c.args.place c.args.guess pieces (made ++ more.0)) (sym c.in-Some.ensures.items)
          (matches_on (IsOfPiece rules c.args.before.value c.args.place c.args.guess) c.pop.new.self.items (last ∷ []) made more.0 copied more.2),
    )) c.add.ensures
