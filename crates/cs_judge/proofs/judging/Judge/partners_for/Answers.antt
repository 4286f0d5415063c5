use Rattle.std.proofs.Common.{ℕ, map, length, subst, sym}
use Rattle.cs_judge.specs.Certificates.{IsSpotAt}
use Rattle.cs_judge.specs.Partnering.{Proves, CanProve, AreCandidatesBelow}
use Rattle.cs_judge.specs.Proving.{bare}
use Rattle.cs_judge.proofs.Candidates.{refused}
use Rattle.cs_judge.proofs.Spots.{chosen_proves}
use Rattle.cs_judge.proofs.judging.Judge.partners_for.Goals as goal

pub returns-in_ok-candidates-in-Some : goal.returns-in_ok-candidates-in-Some
returns-in_ok-candidates-in-Some c =
    let judge = c.args.self.now in
    let mine = c.args.mine.now in
    let spot = c.in-Some.spot in
    let notes = c.in-Some.ensures.notes in
    let are = subst (AreCandidatesBelow judge mine spot (length judge.pool.now)) (sym c.as_slice.ensures.value) c.in_ok-candidates-in-Some.ensures in
    subst (λ (place : ℕ). CanProve judge mine place → Proves judge mine place c.chosen.result) notes.same
    (chosen_proves judge.pool.now mine spot c.as_slice.result.now are.meet are.all judge.model c.chosen.result
    (subst (λ (place : ℕ). IsSpotAt mine place spot) (sym notes.same) notes) c.chosen.ensures.others c.chosen.ensures.left c.chosen.ensures.right)

pub returns-in-None : goal.returns-in-None
returns-in-None c proof =
    let guessed = proof.1 in
    absurd (refused (c.in-None.ensures.found (map bare c.args.self.now.pool.now) guessed.guess guessed.passed guessed.at guessed.operation) guessed.guessed)
