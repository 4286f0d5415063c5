use Rattle.cs_state.specs.Naming.{naming}
use Rattle.cs_suspects.proofs.GuessNumbers.{AreMadeSoFar}
use Rattle.cs_suspects.proofs.suspected.guesses_of.Given as goal

abbrev pub invariant-loop-asked : goal.invariant-loop-asked
invariant-loop-asked l = AreMadeSoFar (naming l.tables) l.state.constraints l.state.asked l.guesses.items l.asked-iterator
