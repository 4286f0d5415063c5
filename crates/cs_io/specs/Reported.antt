-- The effect of a failed call on the bytes of a source or a sink, if these are known.
use Rattle.std.specs.Prelude.{ℕ, ◌<◌, List, length, take, Option}
use Rattle.std.specs.Io.KnownBytes.{Appends, Consumes}

-- if the remaining bytes are known, some at the front were consumed
abbrev pub LosesFront : (before now : Option (List ℕ)) → Type 0
LosesFront before now = (front : List ℕ) × Consumes before now front

-- if the bytes written are known, a prefix of the text was appended, but not all of it
abbrev pub AppendsPart : (before now : Option (List ℕ)) → List ℕ → Type 0
AppendsPart before now text = (k : ℕ) × (k < length text) × Appends before now (take k text)
