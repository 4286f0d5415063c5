-- Operations whose results may be guessed.
use Rattle.cs_events.specs.declared.operation.Operation.{Operation}
use Rattle.cs_events.specs.declared.operation.Operation.TheVariants.{Unary, Show}

-- there can be a ground to guess the result: of all operations except for unary operators and operations that only show what they did
abbrev pub IsGuessable : Operation → Type 0
IsGuessable (Unary operator ty operand) = ⊥
IsGuessable (Show what) = ⊥
IsGuessable operation = Unit {0}
