-- The parts of a typed expression.
use Rattle.cs_types.specs.Shape.{Shape}
use Rattle.cs_ast.specs.declared.place.Place.{Place}
use Rattle.cs_ast.specs.TypedTree.{Typed, Of, Form}

-- the type of an expression
abbrev pub type_of : Typed → Shape
type_of (Of at ty form) = ty

-- the form of an expression
abbrev pub form_of : Typed → Form
form_of (Of at ty form) = form

-- the position of an expression
abbrev pub place_in : Typed → Place
place_in (Of at ty form) = at
