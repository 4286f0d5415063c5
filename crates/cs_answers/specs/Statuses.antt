-- The exit statuses: their numbers, and with which one a run ends.
use Rattle.std.specs.Prelude.{ℕ, Result, Ok, Err}
use Rattle.cs_io.specs.declared.write.WriteRefusal.{WriteRefusal}
use Rattle.cs_answers.specs.declared.answer.Failure.{Failure}
use Rattle.cs_answers.specs.declared.answer.Failure.TheVariants as failures
use Rattle.cs_answers.specs.declared.status.Status.{Status}
use Rattle.cs_answers.specs.declared.status.Status.TheVariants.{Clean, Found, BadWords, BadFile, ReadFault, WriteFault, Memory, NoEntry}

-- the number of a status
abbrev pub status_code : Status → ℕ
status_code Clean = 0
status_code Found = 1
status_code BadWords = 2
status_code BadFile = 3
status_code ReadFault = 4
status_code WriteFault = 5
status_code Memory = 6
status_code NoEntry = 7

-- how a run ends, given how its text was written: with the answer's status if all of it was
abbrev pub ended_with : Status → Result (Unit {0}) WriteRefusal → Status
ended_with status (Ok done) = status
ended_with status (Err refusal) = WriteFault

-- how a run without an answer ends
abbrev pub ended_by : Failure → Status
ended_by failures.Read = ReadFault
ended_by failures.Memory = Memory
