use Rattle.std.proofs.Common.{◌≡◌, sym, ap, ◌∙◌}
use Rattle.cs_events.specs.declared.guess.Guess.{Guess}
use Rattle.cs_judge.proofs.Meetings.{same_item}
use Rattle.cs_judge.proofs.judging.spot_of.Goals as goal

pub returns-in_err-passed-clause-found : goal.returns-in_err-passed-clause-found
returns-in_err-passed-clause-found c pool guess passed at operation guessed =
    let same : c.in_ok-guess.guess ≡ guess = same_item c.in_ok-guess.guess guess (sym c.in_ok-guess.was ∙ c.guess_at.ensures ∙ guessed.listed) in
    absurd (let e = c.in_err-passed.ensures.found passed (ap (λ (it : Guess). it.event) same ∙ guessed.number) in cc)
