-- Printed so far: the lines of the guesses before the index.
use Rattle.std.proofs.Common.{◌≡◌, ◌++◌, take, codes}
use Rattle.std.specs.List.{flat_map}
use Rattle.std.specs.Fmt.{decimal}
use Rattle.cs_events.specs.declared.guess.Guess.{Guess}
use Rattle.cs_report_parts.specs.RunLines.{guess_text}
use Rattle.cs_report.proofs.ground.append_other_guesses.Given as goal

abbrev pub invariant-loop-guess : goal.invariant-loop-guess
invariant-loop-guess l = l.text.items ≡ l.initial.text.items
    ++ flat_map (λ (guess : Guess). (codes "    other " ++ decimal l.number ++ codes " " ++ guess_text guess) ++ codes "\n") (take l.guess-index l.guesses)
