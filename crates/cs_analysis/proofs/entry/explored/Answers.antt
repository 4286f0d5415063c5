use Rattle.cs_analysis.proofs.entry.explored.Goals as goal

pub explored_in-requires-clause-ready : goal.explored_in-requires-clause-ready
explored_in-requires-clause-ready g c = record { laid_out = c.requires.runs.laid_out; prepared = c.requires.runs.prepared }
