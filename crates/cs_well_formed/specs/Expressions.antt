-- Well-formed expressions: each node has the type and the parts that its form requires (C11 6.5), and each number names something that exists.
use Rattle.std.specs.Prelude.{◌≡◌, ℕ, ◌+◌, ◌⊎◌, true, false, List, [], ◌∷◌, map, length, take, slice_get, Some}
use Rattle.cs_types.specs.declared.data_model.DataModel.{DataModel}
use Rattle.cs_types.specs.declared.int_type.IntType.{IntType}
use Rattle.cs_types.specs.declared.int_type.IntType.TheVariants.{Int, Char}
use Rattle.cs_types.specs.Members.{Member}
use Rattle.cs_types.specs.DataModel.{size_type_of, difference_type_of}
use Rattle.cs_types.specs.IntType.{InRange}
use Rattle.cs_types.specs.Layout.{members_of}
use Rattle.cs_types.specs.Shape.{Shape, void, integer, pointer, array, struct}
use Rattle.cs_ast.specs.declared.typed.operator.BinOp.{BinOp}
use Rattle.cs_ast.specs.declared.typed.operator.BinOp.TheVariants.{Shl, Shr}
use Rattle.cs_ast.specs.declared.typed.operator.Allocator.{Allocator}
use Rattle.cs_ast.specs.declared.typed.operator.Allocator.TheVariants.{Malloc, Calloc}
use Rattle.cs_ast.specs.TypedTree.{Typed, Of, Form, Number, Null, Text, Local, Global, Through, Index, Member as MemberOf, Arrow, Load, Address, Decay, Convert}
use Rattle.cs_ast.specs.TypedTree.{Unary, Not, Binary, Compare, Sum, Difference, And, Or, Choice, Comma, Assign, Update, Move, Call, Allocate, Free, TypedList}
use Rattle.cs_ast.specs.TypedTree.{NoMore, Further}
use Rattle.cs_ast.specs.TypedProgram.{TypedProgram, Variable, FileObject, Routine}
use Rattle.cs_expressions.specs.Objects.{is_object}
use Rattle.cs_types.specs.Kinds.{is_void, is_array, is_complete}
use Rattle.cs_folding.specs.TypedParts.{type_of, form_of}
use Rattle.cs_expressions.specs.Calls.{block_of}
use Rattle.cs_well_formed.specs.Structs.{NamesStructs, VariablesName, TypesAreNamed}

-- the context of expressions: a program, and a function with these parameters and locals, this number of labels, and this result
pub record Setting : Type 0 where
  pub program : TypedProgram
  pub variables : List Variable
  pub labels : ℕ
  pub returns : Shape

-- the declared types around an expression name structs of the program
pub record TypesAroundAreNamed (s : Setting) : Type 0 where
  pub program : TypesAreNamed s.program
  pub variables : VariablesName s.program.table s.variables
  pub returns : NamesStructs s.program.table s.returns

-- an expression that designates an object, and one that is a value
abbrev pub IsObject : Typed → Type 0
IsObject e = is_object (form_of e) ≡ true

abbrev pub IsValue : Typed → Type 0
IsValue e = is_object (form_of e) ≡ false

-- an expression has a type
abbrev pub HasType : Typed → Shape → Type 0
HasType e ty = type_of e ≡ ty

abbrev pub IsInteger : Shape → Type 0
IsInteger ty = (kind : IntType) × (ty ≡ integer kind)

abbrev pub IsPointer : Shape → Type 0
IsPointer ty = (target : Shape) × (ty ≡ pointer target)

abbrev pub IsScalar : Shape → Type 0
IsScalar ty = IsInteger ty ⊎ IsPointer ty

abbrev pub IsValueOf : Typed → Shape → Type 0
IsValueOf e ty = IsValue e × HasType e ty

abbrev pub IsIntegerValue : Typed → Type 0
IsIntegerValue e = IsValue e × IsInteger (type_of e)

abbrev pub IsScalarValue : Typed → Type 0
IsScalarValue e = IsValue e × IsScalar (type_of e)

-- a struct of the program has a member of a type at an offset
pub record HasMember (p : TypedProgram) (number offset : ℕ) (ty : Shape) : Type 0 where
  pub members : List Member
  pub complete : members_of p.table number ≡ Some members
  pub index : ℕ
  pub member : Member
  pub found : slice_get members index ≡ Some member
  pub offset_is : member.offset ≡ offset
  pub type_is : member.ty ≡ ty

-- an object of the type can be held whole: the type is neither `void` nor an incomplete struct
abbrev pub IsWhole : TypedProgram → Shape → Type 0
IsWhole p ty = is_complete p.table ty ≡ true

-- an object of the type holds one value: the type is complete, and not an array (C11 6.3.2.1)
abbrev pub IsHeld : TypedProgram → Shape → Type 0
IsHeld p ty = IsWhole p ty × (is_array ty ≡ false)

-- a pointer to an object of a complete type, which can move to the object's neighbours
abbrev pub IsElementPointer : TypedProgram → Shape → Type 0
IsElementPointer p ty = (target : Shape) × (ty ≡ pointer target) × IsWhole p target

-- the right operand of an operator of two integers has the operator's type; the right operand of a shift may have another one
abbrev pub IsRight : BinOp → Shape → Typed → Type 0
IsRight Shl ty e = IsIntegerValue e
IsRight Shr ty e = IsIntegerValue e
IsRight other ty e = IsValueOf e ty

-- values convert between integers, from pointers to their own type and to `void *`, and to `void`
abbrev pub IsConverted : Shape → Shape → Type 0
IsConverted void from = Unit {0}
IsConverted (integer ty) from = IsInteger from
IsConverted (pointer target) from = (from ≡ pointer target) ⊎ ((target ≡ void) × IsPointer from)
IsConverted other from = ⊥

-- values in a list have these types, one for one
abbrev pub AreValuesOf : TypedList → List Shape → Type 0
AreValuesOf NoMore [] = Unit {0}
AreValuesOf (Further e others) (ty ∷ types) = IsValueOf e ty × AreValuesOf others types
AreValuesOf values types = ⊥

-- the types of an allocation's arguments, which are sizes (C11 7.22.3)
abbrev pub sizes_of : DataModel → Allocator → List Shape
sizes_of model Malloc = integer (size_type_of model) ∷ []
sizes_of model Calloc = integer (size_type_of model) ∷ integer (size_type_of model) ∷ []

-- the types of a function's parameters
abbrev pub parameter_types : Routine → List Shape
parameter_types r = map (λ (v : Variable). v.ty) (take r.parameters r.variables)

-- the call has the arguments and the type that its function requires
abbrev pub IsCalled : TypedProgram → ℕ → TypedList → Shape → Type 0
IsCalled p number arguments ty = (r : Routine) × (slice_get p.routines number ≡ Some r) × (r.returns ≡ ty) × AreValuesOf arguments (parameter_types r)

abbrev mutual
  -- an expression whose parts are well formed, and suit its form and its type
  pub IsWell : Setting → Typed → Type 0
  IsWell s (Of at ty form) = IsWellForm s ty form

  pub IsWellForm : Setting → Shape → Form → Type 0
  IsWellForm s ty (Number n) = (kind : IntType) × (ty ≡ integer kind) × InRange s.program.model kind n
  IsWellForm s ty Null = IsPointer ty × NamesStructs s.program.table ty
  IsWellForm s ty (Text number) = (bytes : List ℕ) × (slice_get s.program.literals number ≡ Some bytes) × (ty ≡ array (integer Char) (length bytes + 1))
  IsWellForm s ty (Local number) = (v : Variable) × (slice_get s.variables number ≡ Some v) × (v.ty ≡ ty)
  IsWellForm s ty (Global number) = (g : FileObject) × (slice_get s.program.globals number ≡ Some g) × (g.ty ≡ ty)
  IsWellForm s ty (Through e) = IsWell s e × IsValueOf e (pointer ty) × (is_void ty ≡ false)
  IsWellForm s ty (Index elements number order) = IsWell s elements × IsWell s number × IsValueOf elements (pointer ty) × IsWhole s.program ty
      × IsIntegerValue number
  IsWellForm s ty (MemberOf object offset) = IsWell s object × IsObject object × (number : ℕ) × HasType object (struct number)
      × HasMember s.program number offset ty
  IsWellForm s ty (Arrow e offset) = IsWell s e × (number : ℕ) × IsValueOf e (pointer (struct number)) × HasMember s.program number offset ty
  IsWellForm s ty (Load object) = IsWell s object × IsObject object × HasType object ty × IsHeld s.program ty
  IsWellForm s ty (Address object) = IsWell s object × IsObject object × (ty ≡ pointer (type_of object))
  IsWellForm s ty (Decay object) = IsWell s object × IsObject object × (element : Shape) × (count : ℕ) × HasType object (array element count)
      × (ty ≡ pointer element)
  IsWellForm s ty (Convert e) = IsWell s e × IsValue e × IsConverted ty (type_of e)
  IsWellForm s ty (Unary op e) = IsWell s e × IsInteger ty × IsValueOf e ty
  IsWellForm s ty (Not e) = IsWell s e × (ty ≡ integer Int) × IsScalarValue e
  IsWellForm s ty (Binary op left right) = IsWell s left × IsWell s right × IsInteger ty × IsValueOf left ty × IsRight op ty right
  IsWellForm s ty (Compare op left right) = IsWell s left × IsWell s right × (ty ≡ integer Int) × IsScalarValue left × IsValueOf right (type_of left)
  IsWellForm s ty (Sum e amount direction order) = IsWell s e × IsWell s amount × IsElementPointer s.program ty × IsValueOf e ty × IsIntegerValue amount
  IsWellForm s ty (Difference left right) =
      IsWell s left × IsWell s right × (ty ≡ integer (difference_type_of s.program.model)) × IsElementPointer s.program (type_of left) × IsValue left
      × IsValueOf right (type_of left)
  IsWellForm s ty (And left right) = IsWell s left × IsWell s right × (ty ≡ integer Int) × IsScalarValue left × IsScalarValue right
  IsWellForm s ty (Or left right) = IsWell s left × IsWell s right × (ty ≡ integer Int) × IsScalarValue left × IsScalarValue right
  IsWellForm s ty (Choice test one other) = IsWell s test × IsWell s one × IsWell s other × IsScalarValue test × IsValueOf one ty × IsValueOf other ty
  IsWellForm s ty (Comma first second) = IsWell s first × IsWell s second × IsValue first × IsValueOf second ty
  IsWellForm s ty (Assign object value) = IsWell s object × IsWell s value × IsObject object × HasType object ty × IsValueOf value ty × IsHeld s.program ty
  IsWellForm s ty (Update op object value works_in gives) =
      IsWell s object × IsWell s value × IsObject object × IsInteger ty × HasType object ty × IsRight op (integer works_in) value
  IsWellForm s ty (Move object amount direction gives) =
      IsWell s object × IsWell s amount × IsObject object × IsElementPointer s.program ty × HasType object ty × IsIntegerValue amount
  IsWellForm s ty (Call number arguments) = AreWell s arguments × IsCalled s.program number arguments ty
  IsWellForm s ty (Allocate allocator arguments element) =
      AreWell s arguments × AreValuesOf arguments (sizes_of s.program.model allocator) × (target : Shape) × (ty ≡ pointer target)
      × (element ≡ block_of target) × NamesStructs s.program.table ty
  IsWellForm s ty (Free e) = IsWell s e × (ty ≡ void) × IsValueOf e (pointer void)

  -- the same for a list of expressions
  pub AreWell : Setting → TypedList → Type 0
  AreWell s NoMore = Unit {0}
  AreWell s (Further e others) = IsWell s e × AreWell s others
