use Rattle.cs_judge.specs.Partnering.{CanProve, Proves}
use Rattle.cs_judge.proofs.Finding.{AreAt}
use Rattle.cs_judge.proofs.judging.Judge.row_of.Given as goal

abbrev pub invariant-loop-place : goal.invariant-loop-place
invariant-loop-place l = AreAt (λ place partners. CanProve l.self l.mine place → Proves l.self l.mine place partners) l.place l.all.items
