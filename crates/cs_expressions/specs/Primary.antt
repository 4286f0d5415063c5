-- Names, constants and string literals (C11 6.4.4.1, 6.4.5, 6.5.1).
use Rattle.std.specs.Prelude.{ℕ, ◌+◌, pos, int_le, nat_le, length, Bool, if◌then◌else◌, List, [], ◌∷◌, Option, Some, None}
use Rattle.cs_types.specs.declared.data_model.DataModel.{DataModel}
use Rattle.cs_types.specs.declared.int_type.IntType.{IntType}
use Rattle.cs_types.specs.declared.int_type.IntType.TheVariants as int_type
use Rattle.cs_types.specs.IntType.{greatest_of}
use Rattle.cs_types.specs.Shape.{integer, array}
use Rattle.cs_ast.specs.declared.place.Place.{Place}
use Rattle.cs_ast.specs.declared.token.IntegerConstant.{IntegerConstant}
use Rattle.cs_ast.specs.declared.token.Length.{Length}
use Rattle.cs_ast.specs.declared.token.Length.TheVariants as size
use Rattle.cs_ast.specs.TypedTree.{Typed, Of, Number, Text, Local, Global}
use Rattle.cs_scopes.specs.declared.refusal.TypeCode.TheVariants as code
use Rattle.cs_scopes.specs.Meanings.{Meaning}
use Rattle.cs_scopes.specs.Meanings as meaning
use Rattle.cs_scopes.specs.Verdicts.{Verdict, Fine, Fault}

-- string literals by number: the bytes of each
abbrev pub Literals : Type 0
Literals = List (List ℕ)

-- a type can represent a number: it is at most the type's greatest
abbrev pub can_represent : DataModel → IntType → ℕ → Bool
can_represent model ty n = int_le (pos n) (greatest_of model ty)

-- the first of some types that can represent a number
abbrev pub first_representing : DataModel → ℕ → IntType → List IntType → IntType
first_representing model n last [] = last
first_representing model n last (ty ∷ types) = if can_represent model ty n then ty else first_representing model n last types

-- the types of an integer constant in their order: with `u`, decimal, or neither, by the `l`s of its suffix (C11 6.4.4.1, paragraph 5);
-- the last one is taken if no type before it can represent the number
abbrev pub unsigned_types : Length → List IntType
unsigned_types size.Plain = int_type.UInt ∷ int_type.ULong ∷ []
unsigned_types size.Long = int_type.ULong ∷ []
unsigned_types size.LongLong = []

abbrev pub decimal_types : Length → List IntType
decimal_types size.Plain = int_type.Int ∷ int_type.Long ∷ []
decimal_types size.Long = int_type.Long ∷ []
decimal_types size.LongLong = []

abbrev pub other_types : Length → List IntType
other_types size.Plain = int_type.Int ∷ int_type.UInt ∷ int_type.Long ∷ int_type.ULong ∷ int_type.LLong ∷ []
other_types size.Long = int_type.Long ∷ int_type.ULong ∷ int_type.LLong ∷ []
other_types size.LongLong = int_type.LLong ∷ []

-- the type of an integer constant
unfoldable pub constant_type : DataModel → IntegerConstant → IntType
constant_type model k =
    if k.unsigned then first_representing model k.value int_type.ULLong (unsigned_types k.length)
    else (if k.decimal then first_representing model k.value int_type.LLong (decimal_types k.length)
    else first_representing model k.value int_type.ULLong (other_types k.length))

-- a name (C11 6.5.1): a function's name may only be called
unfoldable pub named : Place → Option Meaning → Verdict Typed
named at (Some (meaning.Constant n)) = Fine (Of at (integer int_type.Int) (Number n))
named at (Some (meaning.Global number ty)) = Fine (Of at ty (Global number))
named at (Some (meaning.Local number ty)) = Fine (Of at ty (Local number))
named at (Some (meaning.Function f)) = Fault code.FunctionName at
named at (Some (meaning.Typedef ty)) = Fault code.UnknownName at
named at None = Fault code.UnknownName at

-- a string literal, after the earlier ones (C11 6.4.5, paragraph 6)
unfoldable pub text_at : Literals → Place → List ℕ → Verdict Typed
text_at literals at bytes =
    if nat_le (length bytes) 65535 then Fine (Of at (array (integer int_type.Char) (length bytes + 1)) (Text (length literals))) else Fault code.Size at
