use Rattle.cs_progress.proofs.KnownSymbols.{known_symbol}
use Rattle.cs_progress.proofs.progress.Progress.ask.Goals as goal

pub returns-in-Some-clause-over : goal.returns-in-Some-clause-over
returns-in-Some-clause-over c = known_symbol c.args.state.now c.in-Some.answer c.known.result c.in-Some.ensures.over c.known.ensures.symbol
