use Rattle.std.proofs.Common.{◌≡◌, List, [], ◌∷◌, ◌++◌, suc, length, rules, sym, ap, ◌∙◌, subst, arith}
use Rattle.std.proofs.lemmas.List.{append_assoc, append-nil, nil_from_length}
use Rattle.std.specs.Vec.Iter.{into_iter_items}
use Rattle.cs_eval.specs.declared.piece.Piece.{Piece}
use Rattle.cs_state.specs.declared.state.State.{State}
use Rattle.cs_pieces.specs.Pieces.{IsOfPiece, AreOfPieces}
use Rattle.cs_children.proofs.Apart.{adds_none, adds_on, matches_on}
use Rattle.cs_children.proofs.children.Children.add_each.Goals as goal

pub loop-piece-init : goal.loop-piece-init
loop-piece-init c =
    let gives = c.into_iter-piece-iterator.ensures.into_iter_gives in
    record {
      lengths = gives.1 ∙ c.args.pieces.ok.0 ∙ sym (ap length gives.0);
      so_far = ([], [], sym gives.0, adds_none c.args.self.now, tt);
    }

pub loop-piece-preserved : goal.loop-piece-preserved
loop-piece-preserved c =
    let (done, made, whole, adds, match) = c.loop-piece.invariant.so_far in
    let (one, added, matched) = c.in_ok-add.ensures in
    let piece = c.in-Some.piece in
    let left = into_iter_items c.next.new.self in
    let there : into_iter_items c.loop-piece.piece-iterator ≡ piece ∷ left = c.in-Some.ensures.steps.0 in
    let short : length (into_iter_items c.loop-piece.piece-iterator) ≡ suc (length left) = ap length there in
    let same : c.in_ok-state.state.value ≡ c.args.before.now = search rules in
    let rules = c.args.exploration.now.rules.now in
    let is_made = IsOfPiece rules c.args.before.now c.args.place c.args.guess in
    record {
      lengths = omega (arith, short, c.loop-piece.invariant.lengths, c.in-Some.ensures.steps.1);
      so_far = (
        done ++ piece ∷ [],
        made ++ one,
        whole ∙ ap (λ (rest : List Piece). done ++ rest) there ∙ sym (append_assoc done (piece ∷ []) left),
        adds_on c.args.self.now c.loop-piece.self c.add.new.self made one [] [] adds added,
        matches_on is_made done (piece ∷ []) made one match
            (subst (λ (state : State). AreOfPieces rules state c.args.place c.args.guess (piece ∷ []) one) same matched),
      );
    }

pub returns : goal.returns
returns c =
    let (done, made, whole, adds, match) = c.loop-piece.invariant.so_far in
    let none : into_iter_items c.loop-piece.piece-iterator ≡ [] =
    nil_from_length (into_iter_items c.loop-piece.piece-iterator) (sym c.loop-piece.invariant.lengths ∙ c.in-None.ensures.steps.0) in
    let rules = c.args.exploration.now.rules.now in
    let are : c.args.pieces.items ≡ done = whole ∙ ap (λ (rest : List Piece). done ++ rest) none ∙ append-nil done in (
      made,
      adds,
      subst (λ (pieces : List Piece). AreOfPieces rules c.args.before.now c.args.place c.args.guess pieces made) (sym are) match,
    )
