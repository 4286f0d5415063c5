use Rattle.std.proofs.Common.{◌≡◌, ◌+◌}
use Rattle.std.specs.Prelude.{Some, slice_get}
use Rattle.cs_suspects.specs.Chosen.{counted}
use Rattle.cs_suspects.proofs.ChosenEnds.{wanted_once_more}
use Rattle.cs_suspects.proofs.choosing.is_wanted.Goals as goal

pub returns : goal.returns
returns c =
    let counts = c.args.counts.now.items in
    let at : slice_get (counted counts) c.in-Some.place ≡ Some c.args.outcome = rw c.deref.ensures.value at c.in-Some.ensures in
    wanted_once_more counts c.in-Some.place (c.index.result.now.chosen + 1) c.args.outcome at
