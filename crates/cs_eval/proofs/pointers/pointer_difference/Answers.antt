use Rattle.std.proofs.Common.{Vec, Global, Option, subst}
use Rattle.std.proofs.lemmas.Result.{IfOk-weaker}
use Rattle.cs_events.specs.declared.event.Label.TheVariants as label
use Rattle.cs_events.specs.declared.event.Wrap.TheVariants.{Same}
use Rattle.cs_terms.specs.declared.term.Lin.{Lin}
use Rattle.cs_eval.specs.Offsets.{AreElementsBetween}
use Rattle.cs_eval.specs.declared.piece.Piece.{Piece}
use Rattle.cs_eval.proofs.Differences.{difference_split, difference_guess}
use Rattle.cs_eval.proofs.OnePiece.{shown_pieces}
use Rattle.cs_eval.proofs.TwoWays.{if_ok_both}
use Rattle.cs_eval.proofs.pointers.pointer_difference.Goals as goal

pub returns-in-Some : goal.returns-in-Some
returns-in-Some c =
    let sets = c.args.setting.now.constraints.now in
    let elements = subst (λ (o : Option Lin). AreElementsBetween c.args.left c.args.right c.args.size o) c.in-Some.is c.in_ok-elements.ensures in
    if_ok_both {X = Vec Piece Global} _ _ _ _
    (λ (pieces : Vec Piece Global). λ made. λ inhabited.
    difference_split c.args.setting.now.model sets c.args.setting.now.guess.0 c.args.left c.args.right c.args.size c.requires.left c.requires.right
    c.in-Some.number pieces.items elements inhabited
    (shown_pieces sets c.unwrapped.result (label.Wrap Same) c.in-Some.number pieces.items c.unwrapped.ensures.label c.unwrapped.ensures.answer made))
    c.one_piece.ensures.piece c.one_piece.ensures.inhabited

pub returns-in_ok-check_offset-in-None-2 : goal.returns-in_ok-check_offset-in-None-2
returns-in_ok-check_offset-in-None-2 c =
    let elements = subst (λ (o : Option Lin). AreElementsBetween c.args.left c.args.right c.args.size o) c.in-None.is c.in_ok-elements.ensures in
    IfOk-weaker {X = Vec Piece Global} _ _ _
    (λ (pieces : Vec Piece Global). λ whole.
    difference_guess c.args.setting.now.model c.args.setting.now.constraints.now c.args.setting.now.guess.0 c.args.left c.args.right c.args.size
    c.new-inexact.result pieces.items c.requires.left c.requires.right c.requires.symbol elements c.in_ok-check_offset-in-None.ensures
    c.in_ok-check_offset-in-None-2.ensures c.new-inexact.ensures c.requires.fresh whole)
    c.wrap_guess.ensures
