-- Constants that may initialize file-scope objects: numbers and addresses (C11 6.6, paragraphs 6 and 9).
use Rattle.std.specs.Prelude.{Bool, true, false, ◌&&◌, ◌||◌, is_some}
use Rattle.cs_types.specs.declared.data_model.DataModel.{DataModel}
use Rattle.cs_ast.specs.TypedTree.{Typed, Of, Null, Address, Decay, Sum, Convert, Text, Index, Global as GlobalObject, Member as MemberOf}
use Rattle.cs_folding.specs.Folding.{number_in}

-- the expression is an integer constant expression (C11 6.6, paragraph 6)
abbrev pub is_number : DataModel → Typed → Bool
is_number model e = is_some (number_in model true e)

abbrev mutual
  -- the value points to a file-scope object or a string literal, or to a part of one, with constant subscripts, plus or minus constants
  pub is_static_address : DataModel → Typed → Bool
  is_static_address model (Of at ty (Address object)) = is_static_part model object
  is_static_address model (Of at ty (Decay object)) = is_static_part model object
  is_static_address model (Of at ty (Sum address amount direction order)) = is_static_address model address && is_number model amount
  is_static_address model (Of at ty (Convert e)) = is_static_address model e
  is_static_address model (Of at ty other) = false

  -- the object is a file-scope object, a string literal, or a part of one, with constant subscripts
  pub is_static_part : DataModel → Typed → Bool
  is_static_part model (Of at ty (GlobalObject number)) = true
  is_static_part model (Of at ty (Text number)) = true
  is_static_part model (Of at ty (MemberOf object offset)) = is_static_part model object
  is_static_part model (Of at ty (Index elements number order)) = is_static_address model elements && is_number model number
  is_static_part model (Of at ty other) = false

-- the value is the null pointer, converted or not
abbrev pub is_null_address : Typed → Bool
is_null_address (Of at ty Null) = true
is_null_address (Of at ty (Convert e)) = is_null_address e
is_null_address (Of at ty other) = false

-- the value is an address constant (C11 6.6, paragraph 9); the null pointer has no elements, so it has no sums
abbrev pub is_address : DataModel → Typed → Bool
is_address model e = is_null_address e || is_static_address model e
