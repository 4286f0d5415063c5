-- The case that a `switch` takes, as the interpreter finds it.
use Rattle.cs_meaning.specs.Statements as meaning
use Rattle.cs_frames.specs.declared.cases.Chosen.{Chosen}

abbrev pub chosen_of : Chosen → meaning.Chosen
chosen_of c = record { number = c.number; item = c.item }
