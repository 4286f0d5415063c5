use Rattle.std.proofs.Common.{Vec, Global}
use Rattle.std.proofs.lemmas.Result.{IfOk-weaker}
use Rattle.cs_events.specs.declared.event.Label.TheVariants as label
use Rattle.cs_events.specs.declared.event.Wrap.TheVariants.{Same}
use Rattle.cs_eval.specs.declared.piece.Piece.{Piece}
use Rattle.cs_eval.proofs.Offsets.{sum_split, sum_guess}
use Rattle.cs_eval.proofs.OnePiece.{shown_pieces}
use Rattle.cs_eval.proofs.TwoWays.{if_ok_both}
use Rattle.cs_eval.proofs.pointers.pointer_sum.Goals as goal

pub returns-in_ok-check_bounds-in-Some : goal.returns-in_ok-check_bounds-in-Some
returns-in_ok-check_bounds-in-Some c =
    let sets = c.args.setting.now.constraints.now in
    if_ok_both {X = Vec Piece Global} _ _ _ _
    (λ (pieces : Vec Piece Global). λ made. λ inhabited.
    sum_split c.args.setting.now.model sets c.args.setting.now.guess.0 c.args.offset c.args.amount c.args.size c.in_ok-moved.moved c.requires.offset
    c.requires.amount c.in_ok-moved.ensures c.in-Some.sum pieces.items c.in-Some.is c.in_ok-check_bounds-in-Some.ensures inhabited
    (shown_pieces sets c.unwrapped.result (label.Wrap Same) c.in-Some.sum pieces.items c.unwrapped.ensures.label c.unwrapped.ensures.answer made))
    c.one_piece.ensures.piece c.one_piece.ensures.inhabited

pub returns-in-None : goal.returns-in-None
returns-in-None c =
    IfOk-weaker {X = Vec Piece Global} _ _ _
    (λ (pieces : Vec Piece Global). λ whole.
    sum_guess c.args.setting.now.model c.args.setting.now.constraints.now c.args.setting.now.guess.0 c.args.offset c.args.amount c.args.size
    c.in_ok-moved.moved c.requires.offset c.requires.amount c.in_ok-moved.ensures c.new-inexact.result pieces.items c.in-None.is
    c.new-inexact.ensures c.requires.fresh whole)
    c.wrap_guess.ensures
