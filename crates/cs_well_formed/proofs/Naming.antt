-- The types of what is well formed name structs, if the declared types do: for the law `types_are_named`.
use Rattle.std.proofs.Common.{◌≡◌, inl, inr, List, [], ◌∷◌, Option, Some, None, sym}
use Rattle.std.specs.Prelude.{IfSome}
use Rattle.std.specs.List.{All}
use Rattle.std.proofs.lemmas.List.Elements.{All-nil, All-weaker}
use Rattle.cs_types.specs.Members.{Member}
use Rattle.cs_types.specs.Shape.{Shape, void, integer, pointer, array, struct}
use Rattle.cs_ast.specs.TypedTree.{Typed, Of, Form, Number, Null, Text, Local, Global, Through, Index, Member as MemberOf, Arrow, Load, Address, Decay, Convert}
use Rattle.cs_ast.specs.TypedTree.{Unary, Not, Binary, Compare, Sum, Difference, And, Or, Choice, Comma, Assign, Update, Move, Call, Allocate, Free, TypedList}
use Rattle.cs_ast.specs.TypedTree.{NoMore, Further, Initial, Value, Parts, Bytes, Initials, NoPart, Part, Statement, Block, Declare, Run, If, IfElse, While, Do}
use Rattle.cs_ast.specs.TypedTree.{For, Switch, Goto, Label, Break, Continue, Return, Statements, Empty, Then}
use Rattle.cs_ast.specs.TypedProgram.{TypedProgram, Variable, FileObject, Routine}
use Rattle.cs_expressions.specs.Calls.{block_of}
use Rattle.cs_folding.specs.TypedParts.{type_of}
use Rattle.cs_well_formed.specs.Structs.{NamesStructs, ExpressionNames, PartsName, RowNames, InitialNames, InitialsName, StatementNames, StatementsName}
use Rattle.cs_well_formed.specs.Structs.{HasNamedTypes, TypesAreNamed, AllTypesAreNamed}
use Rattle.cs_well_formed.specs.Expressions.{Setting, TypesAroundAreNamed, IsWell, IsWellForm, AreWell, IsConverted, HasMember}
use Rattle.cs_well_formed.specs.Initials.{IsWellInitial, AreWellParts, HasConstantValues}
use Rattle.cs_well_formed.specs.Statements.{IsWellStatement, AreWellStatements, IsDroppedIfAny, IsTestIfAny, IsReturned}
use Rattle.cs_well_formed.specs.Programs.{setting_of, IsWellBody, IsWellRoutine, outside, IsWellGlobal}
use Rattle.cs_well_formed.specs.Naming.{ExpressionsAreNamed, InitialsAreNamed, StatementsAreNamed}
use Rattle.cs_well_formed.proofs.Structs.{found-at, named-as, members-named}

module _ (s : Setting) (types : TypesAroundAreNamed s) where
  abbrev Names : Shape → Type 0
  Names ty = NamesStructs s.program.table ty

  top : (e : Typed) → ExpressionNames s.program.table e → Names (type_of e)
  top (Of at ty form) h = h.0

  -- a type that is the type of an expression names structs
  as-type : (ty : Shape) (e : Typed) → type_of e ≡ ty → ExpressionNames s.program.table e → Names ty
  as-type ty e is h = named-as s.program.table ty (type_of e) (sym is) (top e h)

  target-named : (ty : Shape) (e : Typed) → type_of e ≡ pointer ty → ExpressionNames s.program.table e → Names ty
  target-named ty e is h = as-type (pointer ty) e is h

  element-named : (ty element : Shape) (count : _) (e : Typed) → ty ≡ pointer element → type_of e ≡ array element count
      → ExpressionNames s.program.table e → Names ty
  element-named ty element count e is has h = named-as s.program.table ty (pointer element) is (as-type (array element count) e has h)

  member-named : (number offset : _) (ty : Shape) → HasMember s.program number offset ty → Names ty
  member-named number offset ty h =
      named-as s.program.table ty h.member.ty (sym h.type_is)
      (found-at (λ (m : Member). NamesStructs s.program.table m.ty) h.members h.index h.member
      (members-named s.program.table s.program.table number h.members types.program.members h.complete) h.found)

  converted-named : (ty : Shape) (e : Typed) → IsConverted ty (type_of e) → ExpressionNames s.program.table e → Names ty
  converted-named void e h names = tt
  converted-named (integer ty) e h names = tt
  converted-named (pointer target) e (inl same) names = as-type (pointer target) e same names
  converted-named (pointer target) e (inr to_void) names = named-as s.program.table target void to_void.0 tt
  converted-named (array element count) e h names = absurd h
  converted-named (struct number) e h names = absurd h

  block-named : (target : Shape) → Names target → Names (block_of target)
  block-named void h = tt
  block-named (integer ty) h = tt
  block-named (pointer target) h = h
  block-named (array element count) h = h
  block-named (struct number) h = h

  -- the type of an expression names structs, if those of its parts do
  type-named : (form : Form) (ty : Shape) → IsWellForm s ty form → PartsName s.program.table form → Names ty
  type-named (Number n) ty h parts = named-as s.program.table ty (integer h.0) h.1 tt
  type-named Null ty h parts = h.1
  type-named (Text number) ty h parts = named-as s.program.table ty _ h.2 tt
  type-named (Local number) ty h parts =
      named-as s.program.table ty h.0.ty (sym h.2) (found-at (λ (v : Variable). NamesStructs s.program.table v.ty) s.variables number h.0 types.variables h.1)
  type-named (Global number) ty h parts =
      named-as s.program.table ty h.0.ty (sym h.2)
      (found-at (λ (g : FileObject). NamesStructs s.program.table g.ty) s.program.globals number h.0 types.program.globals h.1)
  type-named (Through e) ty h parts = target-named ty e h.1.1 parts
  type-named (Index elements number order) ty h parts = target-named ty elements h.2.1 parts.0
  type-named (MemberOf object offset) ty h parts = member-named h.2 offset ty h.4
  type-named (Arrow e offset) ty h parts = member-named h.1 offset ty h.3
  type-named (Load object) ty h parts = as-type ty object h.2 parts
  type-named (Address object) ty h parts = named-as s.program.table ty (pointer (type_of object)) h.2 (top object parts)
  type-named (Decay object) ty h parts = element-named ty h.2 h.3 object h.5 h.4 parts
  type-named (Convert e) ty h parts = converted-named ty e h.2 parts
  type-named (Unary op e) ty h parts = as-type ty e h.2.1 parts
  type-named (Not e) ty h parts = named-as s.program.table ty _ h.1 tt
  type-named (Binary op left right) ty h parts = as-type ty left h.3.1 parts.0
  type-named (Compare op left right) ty h parts = named-as s.program.table ty _ h.2 tt
  type-named (Sum e amount direction order) ty h parts = as-type ty e h.3.1 parts.0
  type-named (Difference left right) ty h parts = named-as s.program.table ty _ h.2 tt
  type-named (And left right) ty h parts = named-as s.program.table ty _ h.2 tt
  type-named (Or left right) ty h parts = named-as s.program.table ty _ h.2 tt
  type-named (Choice test one other) ty h parts = as-type ty one h.4.1 parts.1
  type-named (Comma first second) ty h parts = as-type ty second h.3.1 parts.1
  type-named (Assign object value) ty h parts = as-type ty object h.3 parts.0
  type-named (Update op object value works_in gives) ty h parts = as-type ty object h.4 parts.0
  type-named (Move object amount direction gives) ty h parts = as-type ty object h.4 parts.0
  type-named (Call number arguments) ty h parts =
      named-as s.program.table ty h.1.0.returns (sym h.1.2)
      (found-at (HasNamedTypes s.program.table) s.program.routines number h.1.0 types.program.routines h.1.1).returns
  type-named (Allocate a arguments element) ty h parts = h.5
  type-named (Free e) ty h parts = named-as s.program.table ty void h.1 tt

  mutual
    -- the types of a well-formed expression and of its parts name structs
    pub well-named : (e : Typed) → IsWell s e → ExpressionNames s.program.table e
    well-named (Of at ty form) h = let parts = parts-named form ty h in (type-named form ty h parts, parts)

    parts-named : (form : Form) (ty : Shape) → IsWellForm s ty form → PartsName s.program.table form
    parts-named (Number n) ty h = tt
    parts-named Null ty h = tt
    parts-named (Text number) ty h = tt
    parts-named (Local number) ty h = tt
    parts-named (Global number) ty h = tt
    parts-named (Through e) ty h = well-named e h.0
    parts-named (Index elements number order) ty h = (well-named elements h.0, well-named number h.1)
    parts-named (MemberOf object offset) ty h = well-named object h.0
    parts-named (Arrow e offset) ty h = well-named e h.0
    parts-named (Load object) ty h = well-named object h.0
    parts-named (Address object) ty h = well-named object h.0
    parts-named (Decay object) ty h = well-named object h.0
    parts-named (Convert e) ty h = well-named e h.0
    parts-named (Unary op e) ty h = well-named e h.0
    parts-named (Not e) ty h = well-named e h.0
    parts-named (Binary op left right) ty h = (well-named left h.0, well-named right h.1)
    parts-named (Compare op left right) ty h = (well-named left h.0, well-named right h.1)
    parts-named (Sum e amount direction order) ty h = (well-named e h.0, well-named amount h.1)
    parts-named (Difference left right) ty h = (well-named left h.0, well-named right h.1)
    parts-named (And left right) ty h = (well-named left h.0, well-named right h.1)
    parts-named (Or left right) ty h = (well-named left h.0, well-named right h.1)
    parts-named (Choice test one other) ty h = (well-named test h.0, well-named one h.1, well-named other h.2)
    parts-named (Comma first second) ty h = (well-named first h.0, well-named second h.1)
    parts-named (Assign object value) ty h = (well-named object h.0, well-named value h.1)
    parts-named (Update op object value works_in gives) ty h = (well-named object h.0, well-named value h.1)
    parts-named (Move object amount direction gives) ty h = (well-named object h.0, well-named amount h.1)
    parts-named (Call number arguments) ty h = row-named arguments h.0
    parts-named (Allocate a arguments element) ty h = (
      row-named arguments h.0,
      named-as s.program.table element (block_of h.2) h.4 (block-named h.2 (named-as s.program.table (pointer h.2) ty (sym h.3) h.5)),
    )
    parts-named (Free e) ty h = well-named e h.0

    row-named : (es : TypedList) → AreWell s es → RowNames s.program.table es
    row-named NoMore h = tt
    row-named (Further e others) h = (well-named e h.0, row-named others h.1)

  -- its own type names structs
  pub type_of-named : (e : Typed) → IsWell s e → NamesStructs s.program.table (type_of e)
  type_of-named e h = top e (well-named e h)

  pub value-named : (e : Typed) (ty : Shape) → IsWell s e → type_of e ≡ ty → NamesStructs s.program.table ty
  value-named e ty h is = as-type ty e is (well-named e h)

  mutual
    -- the types of a well-formed initializer name structs
    pub initial-named : (i : Initial) (ty : Shape) → IsWellInitial s ty i → InitialNames s.program.table i
    initial-named (Value v) ty h = well-named v h.0
    initial-named (Bytes bytes) ty h = tt
    initial-named (Parts parts) ty h = initials-named parts h.0 h.2

    initials-named : (parts : Initials) (types : List Shape) → AreWellParts s types parts → InitialsName s.program.table parts
    initials-named NoPart tys h = tt
    initials-named (Part first others) [] h = absurd h
    initials-named (Part first others) (ty ∷ tys) h = (initial-named first ty h.0, initials-named others tys h.1)

  dropped-named : (e : Option Typed) → IsDroppedIfAny s e → IfSome e (ExpressionNames s.program.table)
  dropped-named None h = tt
  dropped-named (Some e) h = well-named e h.0

  test-named : (e : Option Typed) → IsTestIfAny s e → IfSome e (ExpressionNames s.program.table)
  test-named None h = tt
  test-named (Some e) h = well-named e h.0

  returned-named : (e : Option Typed) → IsReturned s e → IfSome e (ExpressionNames s.program.table)
  returned-named None h = tt
  returned-named (Some e) h = well-named e h.0

  first-named : (i : Option Initial) (ty : Shape) → IfSome i (λ i. IsWellInitial s ty i) → IfSome i (InitialNames s.program.table)
  first-named None ty h = tt
  first-named (Some i) ty h = initial-named i ty h

  mutual
    -- the types of a well-formed statement name structs
    pub statement-named : (b : Statement) → IsWellStatement s b → StatementNames s.program.table b
    statement-named (Block at statements) h = statements-named statements h
    statement-named (Declare at number first) h = first-named first h.0.ty h.2
    statement-named (Run at e) h = well-named e h.0
    statement-named (If at test body) h = (well-named test h.0, statement-named body h.2)
    statement-named (IfElse at test body other) h = (well-named test h.0, statement-named body h.2, statement-named other h.3)
    statement-named (While at test body) h = (well-named test h.0, statement-named body h.2)
    statement-named (Do at body test) h = (well-named test h.0, statement-named body h.2)
    statement-named (For at first test last body) h = (statements-named first h.0, test-named test h.1, dropped-named last h.2, statement-named body h.3)
    statement-named (Switch at value cases statements) h = (well-named value h.0, statements-named statements h.3)
    statement-named (Goto at label) h = tt
    statement-named (Label at label body) h = statement-named body h.1
    statement-named (Break at) h = tt
    statement-named (Continue at) h = tt
    statement-named (Return at value) h = returned-named value h

    statements-named : (bs : Statements) → AreWellStatements s bs → StatementsName s.program.table bs
    statements-named Empty h = tt
    statements-named (Then first others) h = (statement-named first h.0, statements-named others h.1)

-- all types of a well-formed program name structs
pub program-named : (p : TypedProgram) → TypesAreNamed p → All (IsWellGlobal p) p.globals → All (IsWellRoutine p) p.routines → AllTypesAreNamed p
program-named p types globals routines = record {
  declared = types;
  globals = All-weaker (IsWellGlobal p) (λ (g : FileObject). IfSome g.initial (InitialNames p.table)) (λ g well. object g.ty g.initial well.1) p.globals
      globals;
  routines = All-weaker (IsWellRoutine p) (λ (r : Routine). IfSome r.body (StatementNames p.table)) (λ r well. body r well.named r.body well.body) p.routines
      routines;
}
  where
    object : (ty : Shape) (i : Option Initial) → IfSome i (λ i. IsWellInitial (outside p) ty i × HasConstantValues p.model i)
        → IfSome i (InitialNames p.table)
    object ty None h = tt
    object ty (Some i) h =
        initial-named (outside p) (record { program = types; variables = All-nil (λ (v : Variable). NamesStructs p.table v.ty); returns = tt }) i ty h.0

    body : (r : Routine) → HasNamedTypes p.table r → (b : Option Statement) → IfSome b (IsWellBody p r) → IfSome b (StatementNames p.table)
    body r named None h = tt
    body r named (Some b) h = statement-named (setting_of p r b) (record { program = types; variables = named.variables; returns = named.returns }) b
        h.statement

pub expressions_are_named : ExpressionsAreNamed
expressions_are_named s e types h = well-named s types e h

pub initials_are_named : InitialsAreNamed
initials_are_named s ty i types h = initial-named s types i ty h

pub statements_are_named : StatementsAreNamed
statements_are_named s b types h = statement-named s types b h
