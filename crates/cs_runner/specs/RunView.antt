-- The inputs and guesses of a run.
use Rattle.cs_meaning.specs.ProgramRuns.{ProgramRun}
use Rattle.cs_objects.specs.declared.settings.Setting.{Setting}

abbrev pub run_of : Setting → ProgramRun
run_of setting = record { inputs = setting.inputs.now; guesses = setting.guesses.now }
