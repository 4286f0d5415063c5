-- Objects and their values: lvalues, complete types, sizes and scalars (C11 6.2.5, 6.3.2.1, 6.5.3.4).
use Rattle.std.specs.Prelude.{ℕ, pos, Bool, true, false, if◌then◌else◌, List, Option, Some, None}
use Rattle.cs_types.specs.declared.data_model.DataModel.{DataModel}
use Rattle.cs_types.specs.declared.structs.StructType.{StructType}
use Rattle.cs_types.specs.DataModel.{size_type_of}
use Rattle.cs_types.specs.Shape.{Shape, integer, pointer, array}
use Rattle.cs_types.specs.Kinds.{is_void, is_complete}
use Rattle.cs_ast.specs.declared.place.Place.{Place}
use Rattle.cs_ast.specs.TypedTree.{Typed, Of, Form, Number, Text, Local, Global, Through, Index, Member as MemberForm, Arrow, Load, Decay}
use Rattle.cs_scopes.specs.declared.refusal.TypeCode.TheVariants as code
use Rattle.cs_scopes.specs.Verdicts.{Verdict, Fine, Fault}
use Rattle.cs_folding.specs.TypedParts.{type_of, place_in}
use Rattle.cs_scopes.specs.Sizes.{bytes_in}

-- the expression is an lvalue: it designates an object
abbrev pub is_object : Form → Bool
is_object (Text literal) = true
is_object (Local declaration) = true
is_object (Global number) = true
is_object (Through e) = true
is_object (Index a n order) = true
is_object (MemberForm object offset) = true
is_object (Arrow e offset) = true
is_object other = false

-- a verdict on an expression that must be an lvalue or have a value: one of type `void` does neither (C11 6.3.2.2)
abbrev pub unless_void : Typed → Verdict Typed → Verdict Typed
unless_void e v = if is_void (type_of e) then Fault code.VoidValue (place_in e) else v

-- a number of bytes as a result of `sizeof`
abbrev pub measure_of : DataModel → Place → Option ℕ → Verdict Typed
measure_of model at (Some bytes) = Fine (Of at (integer (size_type_of model)) (Number (pos bytes)))
measure_of model at None = Fault code.Size at

-- `sizeof` of a type (C11 6.5.3.4)
unfoldable pub measured : DataModel → List StructType → Place → Shape → Verdict Typed
measured model table at ty = if is_complete table ty then measure_of model at (bytes_in model table ty) else Fault code.IncompleteType at

-- the value of an object of a type: for an array the pointer to its first element, else what the object holds
unfoldable pub held : List StructType → Place → Typed → Shape → Verdict Typed
held table at e (array element count) = Fine (Of at (pointer element) (Decay e))
held table at e ty = if is_complete table ty then Fine (Of at ty (Load e)) else Fault code.IncompleteType at

-- the value of an expression (C11 6.3.2.1, paragraphs 2 and 3)
unfoldable pub valued : List StructType → Typed → Verdict Typed
valued table (Of at ty form) = if is_object form then held table at (Of at ty form) ty else Fine (Of at ty form)

-- the value of an expression that must have one (C11 6.3.2.2)
unfoldable pub operand : List StructType → Typed → Verdict Typed
operand table (Of at ty form) = if is_void ty then Fault code.VoidValue at else valued table (Of at ty form)
