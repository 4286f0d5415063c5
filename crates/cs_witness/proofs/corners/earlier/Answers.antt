use Rattle.std.proofs.Common.{ap, ◌∙◌, nat_lt}
use Rattle.std.specs.Prelude.{filter}
use Rattle.std.specs.Map.{keys_of}
use Rattle.cs_inputs.specs.Inputs.{number_at}
use Rattle.cs_events.specs.declared.guess.Guess.{Guess}
use Rattle.cs_witness.proofs.CornerLemmas.{none_put}
use Rattle.cs_witness.proofs.corners.earlier.Goals as goal

pub returns : goal.returns
returns c =
    let taken = rw c.as_slice.ensures.value at c.in_ok-guesses.ensures in
    record {
      paths = ap keys_of c.in_ok-inputs.ensures;
      numbers = λ path there. ap (λ l. number_at l path) c.in_ok-inputs.ensures;
      guesses = taken ∙ none_put (filter (λ (guess : Guess). nat_lt guess.event c.args.event) c.args.run.now.guesses.items);
    }
