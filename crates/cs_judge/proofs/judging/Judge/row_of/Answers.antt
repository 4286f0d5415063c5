use Rattle.cs_judge.specs.Partnering.{CanProve, Proves}
use Rattle.cs_judge.proofs.Finding.{put}
use Rattle.cs_judge.proofs.judging.Judge.row_of.Goals as goal

pub loop-place-preserved : goal.loop-place-preserved
loop-place-preserved c =
    put (λ place partners. CanProve c.args.self.now c.args.mine.now place → Proves c.args.self.now c.args.mine.now place partners) c.loop-place.place
    c.loop-place.all.items c.push.new.self.items _ c.in_ok-push.ensures.items c.loop-place.invariant c.in_ok-partners_for.ensures
