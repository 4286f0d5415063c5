use Rattle.bench_files.proofs.replay.events.Goals as goal

pub new-requires : goal.new-requires
new-requires c = c.requires.well_formed.laid_out

pub with_prepared-requires-clause-laid_out : goal.with_prepared-requires-clause-laid_out
with_prepared-requires-clause-laid_out c = c.requires.well_formed.laid_out
