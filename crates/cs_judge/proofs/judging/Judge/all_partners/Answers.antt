use Rattle.std.proofs.Common.{◌≡◌, Some, slice_get, Vec}
use Rattle.std.specs.declared.alloc.Global.{Global}
use Rattle.cs_judge.specs.declared.pool.Partners.{Partners}
use Rattle.cs_judge.specs.declared.pool.Replay.{Replay}
use Rattle.cs_judge.specs.Partnering.{FindsRow}
use Rattle.cs_judge.proofs.Finding.{put}
use Rattle.cs_judge.proofs.judging.Judge.all_partners.Goals as goal

pub loop-number-preserved : goal.loop-number-preserved
loop-number-preserved c =
    put (λ number (row : Vec Partners Global). (mine : Replay) → slice_get c.args.self.now.pool.now number ≡ Some mine
    → FindsRow c.args.self.now mine row.items) c.loop-number.number c.loop-number.all.items c.push.new.self.items _ c.in_ok-push.ensures.items
    c.loop-number.invariant c.in_ok-partners_of.ensures
