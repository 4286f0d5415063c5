-- Operators that designate objects, and `&` (C11 6.5.2.1, 6.5.2.3, 6.5.3.2).
use Rattle.std.specs.Prelude.{ℕ, if◌then◌else◌, List, Option, Some, None}
use Rattle.cs_types.specs.declared.structs.StructType.{StructType}
use Rattle.cs_types.specs.Layout.{members_of}
use Rattle.cs_types.specs.Members.{Member}
use Rattle.cs_types.specs.Shape.{Shape, integer, pointer, struct}
use Rattle.cs_ast.specs.declared.place.Place.{Place}
use Rattle.cs_ast.specs.declared.typed.operator.Order.{Order}
use Rattle.cs_ast.specs.declared.typed.operator.Order.TheVariants.{PointerFirst, AmountFirst}
use Rattle.cs_ast.specs.TypedTree.{Typed, Of, Through, Index, Member as MemberForm, Arrow, Address}
use Rattle.cs_scopes.specs.declared.refusal.TypeCode.TheVariants as code
use Rattle.cs_scopes.specs.Members.{member_found}
use Rattle.cs_scopes.specs.Verdicts.{Verdict, Fine, Fault, lift}
use Rattle.cs_folding.specs.TypedParts.{type_of, form_of}
use Rattle.cs_expressions.specs.Objects.{is_object, unless_void}
use Rattle.cs_types.specs.Kinds.{is_void, is_complete}

-- `&` (C11 6.5.3.2)
unfoldable pub address_of : Place → Typed → Verdict Typed
address_of at e =
    unless_void e (if is_object (form_of e) then Fine (Of at (pointer (type_of e)) (Address e)) else Fault code.NotLvalue at)

-- unary `*` (C11 6.5.3.2)
unfoldable pub through : Place → Typed → Shape → Verdict Typed
through at e (pointer target) = if is_void target then Fault code.IncompleteType at else Fine (Of at target (Through e))
through at e ty = Fault code.OperandTypes at

-- an element, from a pointer and an index
unfoldable pub element : List StructType → Place → Typed → Typed → Shape → Order → Verdict Typed
element table at e number target order =
    if is_complete table target then Fine (Of at target (Index e number order)) else Fault code.IncompleteType at

-- a subscript (C11 6.5.2.1)
unfoldable pub indexed : List StructType → Place → Typed → Typed → Shape → Shape → Verdict Typed
indexed table at left right (pointer t) (integer s) = element table at left right t PointerFirst
indexed table at left right (integer s) (pointer t) = element table at right left t AmountFirst
indexed table at left right t s = Fault code.OperandTypes at

-- a member of an object, or of the object that a pointer points to
abbrev pub member_in : Place → Typed → Member → Verdict Typed
member_in at e m = Fine (Of at m.ty (MemberForm e m.offset))

abbrev pub member_after : Place → Typed → Member → Verdict Typed
member_after at e m = Fine (Of at m.ty (Arrow e m.offset))

-- the number of a struct
abbrev pub struct_number : Shape → Option ℕ
struct_number (struct number) = Some number
struct_number other = None

-- the number of the struct that a pointer points to
abbrev pub struct_after : Shape → Option ℕ
struct_after (pointer target) = struct_number target
struct_after other = None

-- a member of the struct with a number: without a struct the refusal is at the operator, without such a member at the member's name
abbrev pub member_by : List StructType → Place → Place → List ℕ → (Member → Verdict Typed) → Option ℕ → Verdict Typed
member_by table at name_at name rule (Some number) = lift rule (member_found name_at name (members_of table number))
member_by table at name_at name rule None = Fault code.OperandTypes at

-- a member of an expression that has to be an lvalue, by the number of its struct
abbrev pub object_member : List StructType → Place → Place → List ℕ → Typed → Option ℕ → Verdict Typed
object_member table at name_at name e (Some number) =
    if is_object (form_of e) then member_by table at name_at name (member_in at e) (Some number) else Fault code.NotLvalue at
object_member table at name_at name e None = Fault code.OperandTypes at

-- `.` (C11 6.5.2.3)
unfoldable pub selected : List StructType → Place → Place → List ℕ → Typed → Verdict Typed
selected table at name_at name e = unless_void e (object_member table at name_at name e (struct_number (type_of e)))

-- `->` (C11 6.5.2.3)
unfoldable pub selected_through : List StructType → Place → Place → List ℕ → Typed → Shape → Verdict Typed
selected_through table at name_at name e ty = member_by table at name_at name (member_after at e) (struct_after ty)
