-- Parts of an act, the last of which ends the run: for the contracts of functions with several operations.
use Rattle.std.proofs.Common.{◌≡◌, sym, subst}
use Rattle.cs_events.specs.Runs.{Log, Performed}
use Rattle.cs_meaning.specs.Machine.{State}
use Rattle.cs_run_log.specs.declared.logs.Stop.{Stop}
use Rattle.cs_run_log.specs.Pieces.{finished}

-- if an act has the same result as one that ends the run, it ends the run in the same way
pub ends_following : (stop : Stop) (log : Log) {first last : Performed State} → first ≡ last → last ≡ finished stop log last
    → first ≡ finished stop log first
ends_following stop log same ends = subst (λ (p : Performed State). p ≡ finished stop log p) (sym same) ends
