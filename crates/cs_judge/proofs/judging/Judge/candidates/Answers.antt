use Rattle.std.proofs.Common.{◌+◌, Vec, sym, subst, ap, ◌∙◌}
use Rattle.std.specs.declared.alloc.Global.{Global}
use Rattle.cs_judge.specs.declared.choosing.Candidate.{Candidate}
use Rattle.cs_judge.specs.Partnering.{AreCandidatesBelow}
use Rattle.cs_judge.proofs.Finding.{pushed, passed_over}
use Rattle.cs_judge.proofs.judging.Judge.candidates.Goals as goal
use Rattle.cs_judge.proofs.judging.Judge.candidates.Goals.{in-Some+in_ok-push, in_default}

pub loop-number-preserved : goal.loop-number-preserved
loop-number-preserved c =
    elim c.match-pair_in.branch [
      | in-Some+in_ok-push w ↦
          pushed c.args.self.now c.args.mine.now c.args.spot.now c.loop-number.number c.loop-number.found.items c.match-pair_in.found.items w.in-Some.pair
          (ap (λ (v : Vec Candidate Global). v.items) w.found-is ∙ w.in_ok-push.ensures.items) c.loop-number.invariant w.in-Some.ensures.meets
          w.in-Some.ensures.found
      | in_default w ↦
          subst (λ (v : Vec Candidate Global). AreCandidatesBelow c.args.self.now c.args.mine.now c.args.spot.now (c.loop-number.number + 1) v.items)
          (sym w.found-is)
          (passed_over c.args.self.now c.args.mine.now c.args.spot.now c.loop-number.number c.loop-number.found.items c.loop-number.invariant
          w.in_default.ensures.found)
    ]
