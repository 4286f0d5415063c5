-- Calls (C11 6.5.2.2, 7.22.3).
use Rattle.std.specs.Prelude.{ℕ, Bool, true, false, not, ◌&&◌, ◌==◌, if◌then◌else◌, List, [], ◌∷◌, length, Option, Some, None}
use Rattle.cs_types.specs.declared.ctype.CType.{CType}
use Rattle.cs_types.specs.declared.int_type.IntType.TheVariants.{UChar}
use Rattle.cs_types.specs.Shape.{Shape, void, integer, pointer, shape_of}
use Rattle.cs_ast.specs.declared.place.Place.{Place}
use Rattle.cs_ast.specs.declared.raw.expression.RawExprKind.{RawExprKind}
use Rattle.cs_ast.specs.declared.raw.expression.RawExprKind.TheVariants as kind
use Rattle.cs_ast.specs.declared.typed.operator.Allocator.{Allocator}
use Rattle.cs_ast.specs.declared.typed.operator.Allocator.TheVariants.{Malloc, Calloc}
use Rattle.std.specs.Borrow.{Bor}
use Rattle.cs_ast.specs.TypedTree.{Typed, Of, Call, Allocate, Free, TypedList, NoMore, Further}
use Rattle.cs_types.specs.declared.data_model.DataModel.{DataModel}
use Rattle.cs_scopes.specs.declared.refusal.TypeCode.{TypeCode}
use Rattle.cs_scopes.specs.declared.refusal.TypeCode.TheVariants as code
use Rattle.cs_scopes.specs.declared.scope.Callee.{Callee}
use Rattle.cs_scopes.specs.declared.scope.Callee.TheVariants as callee
use Rattle.cs_scopes.specs.Meanings.{Signature, Meaning, Function, Declaration}
use Rattle.cs_scopes.specs.Verdicts.{Verdict, Fine, Fault}
use Rattle.cs_scopes.specs.Faults.{lesser}
use Rattle.cs_folding.specs.TypedParts.{type_of}
use Rattle.cs_expressions.specs.Conversions.{converted}
use Rattle.cs_scopes.specs.Scopes.{newest}

-- the type that a value is assigned or converted to, if there is one
abbrev pub shape_in : Option (Bor CType) → Option Shape
shape_in (Some ty) = Some (shape_of ty.now)
shape_in None = None

-- the function that a name declares, if it declares one
abbrev pub function_in : Option Meaning → Option Signature
function_in (Some (Function f)) = Some f
function_in other = None

-- the function that a call names, whether its name is in parentheses or not
abbrev pub called : List Declaration → RawExprKind → Option Signature
called declarations (kind.Name name) = function_in (newest name declarations)
called declarations (kind.Parenthesis' place p inner) = called declarations inner
called declarations other = None

-- the types of a function's parameters
abbrev pub parameters_of : Option Signature → List Shape
parameters_of (Some f) = f.parameters
parameters_of None = []

-- the function allocates memory
abbrev pub allocates : Callee → Bool
allocates callee.Malloc = true
allocates callee.Calloc = true
allocates other = false

-- the call's result is assigned or converted to a pointer
abbrev pub is_pointer_target : Option Shape → Bool
is_pointer_target (Some (pointer target)) = true
is_pointer_target other = false

-- what is wrong with the number of arguments, or with the target of an allocation, which has to be a pointer; both are reported at
-- the call (C11 6.5.2.2, paragraph 2)
unfoldable pub call_fault : Option Shape → ℕ → Signature → Option TypeCode
call_fault target count f =
    if length f.parameters == count
    then (if allocates f.callee && not (is_pointer_target target) then Some code.NoTarget else None)
    else Some code.ArgumentCount

-- an argument before others: of two codes at the call the lesser is reported
abbrev pub before_others : Place → Verdict Typed → Verdict TypedList → Verdict TypedList
before_others at (Fine e) (Fine others) = Fine (Further e others)
before_others at (Fine e) (Fault code place) = Fault code at
before_others at (Fault code place) (Fine others) = Fault code at
before_others at (Fault code place) (Fault other there) = Fault (lesser code other) at

-- the values of arguments, each converted to the type of its parameter as if by assignment (C11 6.5.2.2, paragraph 7)
abbrev pub converted_list : DataModel → Place → List Shape → TypedList → Verdict TypedList
converted_list model at [] values = Fine NoMore
converted_list model at (ty ∷ types) NoMore = Fine NoMore
converted_list model at (ty ∷ types) (Further e others) =
    before_others at (converted model at e ty (type_of e)) (converted_list model at types others)

-- the element type of a block that is allocated for a pointer to a type: bytes for `void *`
abbrev pub block_of : Shape → Shape
block_of void = integer UChar
block_of ty = ty

-- an allocated block, typed by the pointer that it is assigned to
abbrev pub allocated : Place → Allocator → TypedList → Option Shape → Verdict Typed
allocated at allocator arguments (Some (pointer target)) = Fine (Of at (pointer target) (Allocate allocator arguments (block_of target)))
allocated at allocator arguments other = Fault code.NoTarget at

-- a call of `free`
abbrev pub freed : Place → TypedList → Verdict Typed
freed at (Further e NoMore) = Fine (Of at void (Free e))
freed at arguments = Fault code.ArgumentCount at

-- a call of a function with its arguments, by what is called and the type of its result
abbrev pub call_by : Place → Option Shape → Callee → Shape → TypedList → Verdict Typed
call_by at target (callee.Numbered number) ty arguments = Fine (Of at ty (Call number arguments))
call_by at target callee.Malloc ty arguments = allocated at Malloc arguments target
call_by at target callee.Calloc ty arguments = allocated at Calloc arguments target
call_by at target callee.Free ty arguments = freed at arguments

-- a call of a function
unfoldable pub call_of : Place → Option Shape → Signature → TypedList → Verdict Typed
call_of at target f arguments = call_by at target f.callee f.result arguments

-- the values of the arguments, or the least code of those that were refused
abbrev pub outcome : Place → Option TypeCode → TypedList → Verdict TypedList
outcome at None values = Fine values
outcome at (Some code) values = Fault code at
