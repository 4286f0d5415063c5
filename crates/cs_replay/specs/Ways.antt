-- The way out of a `switch`, as the replayer finds it.
use Rattle.cs_cfg.specs.CodeSteps as code
use Rattle.cs_replay.specs.declared.ways.Way.{Way}

abbrev pub way_seen : Way → code.Way
way_seen way = record { number = way.number; block = way.block }
