-- The number with which a run continues after an event.
use Rattle.std.specs.Prelude.{ℤ, pos, None, if◌then◌else◌}
use Rattle.cs_events.specs.declared.event.Label.{Label}
use Rattle.cs_events.specs.declared.event.Label.TheVariants.{Alloc}
use Rattle.cs_terms.specs.declared.term.Lin.{Lin}

-- the constant term with this value
abbrev pub constant : ℤ → Lin
constant number = record { sym = None; slope = pos 0; at = pos 0; value = number }

-- 1 if an allocation returns a block and 0 if it returns none; for every other event the operation's own answer
abbrev pub leads_on : Label → Lin → Lin
leads_on (Alloc gives) answer = constant (if gives then pos 1 else pos 0)
leads_on other answer = answer
