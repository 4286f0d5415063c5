-- The use of a value.
use Rattle.cs_ast.specs.declared.place.Place.{Place}
use Rattle.cs_events.specs.Acts.{Act}
use Rattle.cs_meaning.specs.Access.{set_then}
use Rattle.cs_meaning.specs.Machine.{Operand, Scalar, State}

-- the use of a value, which must have been set if it is a scalar
abbrev pub result_act : Place → Operand → Act State → Act State
result_act at (Scalar cell) act = set_then at cell act
result_act at other act = act
