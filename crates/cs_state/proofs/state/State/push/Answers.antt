use Rattle.std.proofs.Common.{List, ap}
use Rattle.cs_state.specs.declared.temporary.Temporary.{Temporary}
use Rattle.cs_state.specs.Writes.{with_temporaries}
use Rattle.cs_state.proofs.WritesMean.{pushed}
use Rattle.cs_state.proofs.state.State.push.Goals as goal

pub returns-clause-means : goal.returns-clause-means
returns-clause-means c =
    pushed c.args.temporary c.args.self.now _ (ap (λ (ts : List Temporary). with_temporaries ts c.args.self.now) c.in_ok-push.ensures.ok)
