-- The log and the setting of a run, seen as the reference machine's.
use Rattle.std.specs.Prelude.{map}
use Rattle.cs_inputs.specs.Inputs.{number_at}
use Rattle.cs_events.specs.Touches as touches
use Rattle.cs_events.specs.PendingEvents as events
use Rattle.cs_events.specs.Runs as runs
use Rattle.cs_run_log.specs.declared.logs.Touch.{Touch}
use Rattle.cs_run_log.specs.declared.logs.Touch.TheVariants as touch
use Rattle.cs_run_log.specs.declared.logs.Pending.{Pending}
use Rattle.cs_run_log.specs.declared.logs.Pending.TheVariants as pending
use Rattle.cs_run_log.specs.declared.logs.Log.{Log}
use Rattle.cs_objects.specs.declared.settings.Setting.{Setting}
use Rattle.cs_values.specs.View.{object_of}

-- a touch
abbrev pub touch_of : Touch → touches.Touch
touch_of (touch.Meets kind place) = touches.Meets kind place
touch_of (touch.Loads frame declaration place) = touches.Loads frame declaration place
touch_of (touch.Stores frame declaration place) = touches.Stores frame declaration place
touch_of (touch.Clears frame declaration place) = touches.Clears frame declaration place

-- what was pending at an event
abbrev pub pending_of : Pending → events.Pending
pending_of (pending.Operates place operation) = events.Operates place operation
pending_of (pending.Tries place path) = events.Tries place path
pending_of (pending.Accesses place object offset) = events.Accesses place (object_of object.value) offset

-- the log of a run
abbrev pub log_of : Log → runs.Log
log_of log = record {
  events = log.events.items;
  pending = map pending_of log.pending.items;
  read = log.read.items;
  touches = map touch_of log.touches.items;
}

-- the setting of a run
abbrev pub setting_of : Setting → runs.Setting
setting_of setting = record {
  model = setting.program.now.model;
  inputs = number_at setting.inputs.now;
  guesses = setting.guesses.now;
  budgets = setting.budgets;
}
