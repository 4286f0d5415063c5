use Rattle.bench_files.proofs.analysis.counts_of.Goals as goal

pub analyze-requires-clause-runs : goal.analyze-requires-clause-runs
analyze-requires-clause-runs g c = record {
  laid_out = c.requires.laid_out;
  prepared = c.requires.prepared;
  lowered = c.requires.lowered;
}
