use Rattle.std.proofs.Common.{◌≡◌, Some, ap}
use Rattle.std.specs.Option.{option_copied}
use Rattle.cs_eval.proofs.PartPieces.{far_added}
use Rattle.cs_eval.proofs.wraps.push_far.Goals as goal

pub returns : goal.returns
returns c =
    let is : option_copied c.args.asked ≡ Some c.in-Some.inexact.now = ap option_copied c.in-Some.is in
    far_added c.args.setting.now.model c.args.setting.now.constraints.now c.args.setting.now.guess.0 c.args.sym c.args.far
    (option_copied c.args.asked) c.in-Some.inexact.now c.args.pieces.now.items c.push.new.self.items c.in_ok-piece.piece is
    c.in_ok-push.ensures.items (record {
      between = c.in_ok-constraints.constraints;
      narrowed = c.in_ok-constraints.ensures.narrowed;
      guessed = c.in_ok-piece.ensures.piece;
      records = c.in_ok-piece.ensures.records;
    })
