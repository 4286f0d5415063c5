-- The commands and their options.
use Rattle.std.specs.Prelude.{ℕ, List, codes, Bool, true, false}
pub use Rattle.cs_words.specs.declared.verb.Verb.{Verb}
use Rattle.cs_words.specs.declared.verb.Verb.TheVariants.{Analyze, Flow, Replay, Generate}
pub use Rattle.cs_words.specs.declared.option_name.OptionName.{OptionName}
use Rattle.cs_words.specs.declared.option_name.OptionName.TheVariants.{Visits, Depth, Events, Nodes, Splits, Kinds, Entry, Format, Model}

-- a command's word
abbrev pub verb_text : Verb → List ℕ
verb_text Analyze = codes "analyze"
verb_text Flow = codes "flow"
verb_text Replay = codes "replay"
verb_text Generate = codes "generate"

-- an option's name
abbrev pub setting_text : OptionName → List ℕ
setting_text Visits = codes "visits"
setting_text Depth = codes "depth"
setting_text Events = codes "events"
setting_text Nodes = codes "nodes"
setting_text Splits = codes "splits"
setting_text Kinds = codes "kinds"
setting_text Entry = codes "entry"
setting_text Format = codes "format"
setting_text Model = codes "model"

-- whether a command has an option
abbrev pub takes : Verb → OptionName → Bool
takes Analyze setting = true
takes Flow Model = true
takes Flow setting = false
takes Replay Visits = true
takes Replay Depth = true
takes Replay Events = true
takes Replay Model = true
takes Replay setting = false
takes Generate setting = false
