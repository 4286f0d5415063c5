-- What is well formed stays so when the program grows: for the typing of files, which adds to a program part by part.
use Rattle.std.proofs.Common.{◌≡◌, ℕ, ◌<◌, true, List, [], ◌∷◌, Option, Some, None, is_some, refl, sym, ap, ◌∙◌, subst, arith}
use Rattle.std.specs.Prelude.{IfSome}
use Rattle.std.proofs.lemmas.List.Elements.{All-weaker}
use Rattle.cs_types.specs.declared.int_type.IntType.{IntType}
use Rattle.cs_types.specs.declared.int_type.IntType.TheVariants.{Int}
use Rattle.cs_types.specs.IntType.{InRange}
use Rattle.cs_types.specs.DataModel.{difference_type_of}
use Rattle.cs_types.specs.Layout.{members_of}
use Rattle.cs_types.specs.Members.{Member}
use Rattle.cs_types.specs.Shape.{Shape, void, integer, pointer, array, struct}
use Rattle.cs_ast.specs.declared.typed.operator.Allocator.TheVariants as allocator
use Rattle.cs_ast.specs.TypedTree.{Typed, Of, Form, Number, Null, Text, Local, Global, Through, Index, Member as MemberOf, Arrow, Load, Address, Decay, Convert}
use Rattle.cs_ast.specs.TypedTree.{Unary, Not, Binary, Compare, Sum, Difference, And, Or, Choice, Comma, Assign, Update, Move, Call, Allocate, Free, TypedList}
use Rattle.cs_ast.specs.TypedTree.{NoMore, Further, Initial, Value, Parts, Bytes, Initials, NoPart, Part, Statement, Block, Declare, Run, If, IfElse, While, Do}
use Rattle.cs_ast.specs.TypedTree.{For, Switch, Goto, Label, Break, Continue, Return, Statements, Empty, Then, count_of}
use Rattle.cs_ast.specs.TypedProgram.{TypedProgram, Variable, FileObject, Routine}
use Rattle.cs_scopes.specs.declared.context.Context.{Context}
use Rattle.cs_scopes.specs.declared.scope.Callee.{Callee}
use Rattle.cs_scopes.specs.declared.scope.Callee.TheVariants.{Malloc, Calloc, Free as FreeOf, Numbered}
use Rattle.cs_scopes.specs.Meanings.{Signature, Meaning, Typedef, Constant, Global as GlobalName, Local as LocalName, Function, Declaration}
use Rattle.cs_folding.specs.TypedParts.{type_of}
use Rattle.cs_well_formed.specs.Structs.{NamesStructs}
use Rattle.cs_well_formed.specs.Expressions.{Setting, TypesAroundAreNamed, IsWell, IsWellForm, AreWell, IsWhole, IsHeld, IsElementPointer, HasMember}
use Rattle.cs_well_formed.specs.Expressions.{AreValuesOf, sizes_of}
use Rattle.cs_well_formed.specs.Initials.{HasParts, IsWellInitial, AreWellParts, HasConstantValues}
use Rattle.cs_well_formed.specs.Statements.{IsWellStatement, AreWellStatements, AreCases, IsDroppedIfAny, IsTestIfAny, IsReturned}
use Rattle.cs_well_formed.specs.Programs.{setting_of, IsWellBody, IsWellRoutine, outside, IsWellGlobal}
use Rattle.cs_well_formed.specs.Agreement.{IsFunction, IsThere, Agrees}
use Rattle.cs_well_formed.specs.Growth.{Extends, Grows}
use Rattle.cs_well_formed.proofs.Structs.{keeps-self, keeps-trans, names-longer, routine-longer}

module _ (s t : Setting) (grows : Grows s t) where
  pub IsWhole-grown : (ty : Shape) → IsWhole s.program ty → IsWhole t.program ty
  IsWhole-grown void h = h
  IsWhole-grown (integer ty) h = refl
  IsWhole-grown (pointer target) h = refl
  IsWhole-grown (array element count) h = IsWhole-grown element h
  IsWhole-grown (struct number) h = by_members (members_of s.program.table number) refl h
    where
      by_members : (found : Option (List Member)) → members_of s.program.table number ≡ found → is_some found ≡ true
          → is_some (members_of t.program.table number) ≡ true
      by_members (Some members) is there = ap is_some (grows.program.table.members number members is)
      by_members None is there = absurd cc

  InRange-grown : (ty : Shape) (kind : IntType) (n : _) → InRange s.program.model kind n → InRange t.program.model kind n
  InRange-grown ty kind n h = subst (λ m. InRange m kind n) grows.program.model h

  HasMember-grown : (number offset : ℕ) (ty : Shape) → HasMember s.program number offset ty → HasMember t.program number offset ty
  HasMember-grown number offset ty h = record {
    members = h.members;
    complete = grows.program.table.members number h.members h.complete;
    index = h.index;
    member = h.member;
    found = h.found;
    offset_is = h.offset_is;
    type_is = h.type_is;
  }

  IsElementPointer-grown : (ty : Shape) → IsElementPointer s.program ty → IsElementPointer t.program ty
  IsElementPointer-grown ty h = (h.0, h.1, IsWhole-grown h.0 h.2)

  IsHeld-grown : (ty : Shape) → IsHeld s.program ty → IsHeld t.program ty
  IsHeld-grown ty h = (IsWhole-grown ty h.0, h.1)

  Names-grown : (ty : Shape) → NamesStructs s.program.table ty → NamesStructs t.program.table ty
  Names-grown ty h = names-longer s.program.table t.program.table grows.program.table.longer ty h

  mutual
    -- a well-formed expression remains well formed
    pub IsWell-grown : (e : Typed) → IsWell s e → IsWell t e
    IsWell-grown (Of at ty form) h = IsWellForm-grown form ty h

    IsWellForm-grown : (form : Form) (ty : Shape) → IsWellForm s ty form → IsWellForm t ty form
    IsWellForm-grown (Number n) ty h = (h.0, h.1, InRange-grown ty h.0 n h.2)
    IsWellForm-grown Null ty h = (h.0, Names-grown ty h.1)
    IsWellForm-grown (Text number) ty h = (h.0, grows.program.literals number h.0 h.1, h.2)
    IsWellForm-grown (Local number) ty h = let found = grows.variables number h.0 h.1 in (found.0, found.1, found.2 ∙ h.2)
    IsWellForm-grown (Global number) ty h = let found = grows.program.globals number h.0 h.1 in (found.0, found.1, found.2 ∙ h.2)
    IsWellForm-grown (Through e) ty h = (IsWell-grown e h.0, h.1, h.2)
    IsWellForm-grown (Index elements number order) ty h = (IsWell-grown elements h.0, IsWell-grown number h.1, h.2, IsWhole-grown ty h.3, h.4)
    IsWellForm-grown (MemberOf object offset) ty h = (IsWell-grown object h.0, h.1, h.2, h.3, HasMember-grown h.2 offset ty h.4)
    IsWellForm-grown (Arrow e offset) ty h = (IsWell-grown e h.0, h.1, h.2, HasMember-grown h.1 offset ty h.3)
    IsWellForm-grown (Load object) ty h = (IsWell-grown object h.0, h.1, h.2, IsHeld-grown ty h.3)
    IsWellForm-grown (Address object) ty h = (IsWell-grown object h.0, h.1, h.2)
    IsWellForm-grown (Decay object) ty h = (IsWell-grown object h.0, h.1, h.2, h.3, h.4, h.5)
    IsWellForm-grown (Convert e) ty h = (IsWell-grown e h.0, h.1, h.2)
    IsWellForm-grown (Unary op e) ty h = (IsWell-grown e h.0, h.1, h.2)
    IsWellForm-grown (Not e) ty h = (IsWell-grown e h.0, h.1, h.2)
    IsWellForm-grown (Binary op left right) ty h = (IsWell-grown left h.0, IsWell-grown right h.1, h.2, h.3, h.4)
    IsWellForm-grown (Compare op left right) ty h = (IsWell-grown left h.0, IsWell-grown right h.1, h.2, h.3, h.4)
    IsWellForm-grown (Sum e amount direction order) ty h = (IsWell-grown e h.0, IsWell-grown amount h.1, IsElementPointer-grown ty h.2, h.3, h.4)
    IsWellForm-grown (Difference left right) ty h = (
      IsWell-grown left h.0,
      IsWell-grown right h.1,
      h.2 ∙ ap (λ m. integer (difference_type_of m)) grows.program.model,
      IsElementPointer-grown (type_of left) h.3,
      h.4,
      h.5,
    )
    IsWellForm-grown (And left right) ty h = (IsWell-grown left h.0, IsWell-grown right h.1, h.2, h.3, h.4)
    IsWellForm-grown (Or left right) ty h = (IsWell-grown left h.0, IsWell-grown right h.1, h.2, h.3, h.4)
    IsWellForm-grown (Choice test one other) ty h = (IsWell-grown test h.0, IsWell-grown one h.1, IsWell-grown other h.2, h.3, h.4, h.5)
    IsWellForm-grown (Comma first second) ty h = (IsWell-grown first h.0, IsWell-grown second h.1, h.2, h.3)
    IsWellForm-grown (Assign object value) ty h = (IsWell-grown object h.0, IsWell-grown value h.1, h.2, h.3, h.4, IsHeld-grown ty h.5)
    IsWellForm-grown (Update op object value works_in gives) ty h = (IsWell-grown object h.0, IsWell-grown value h.1, h.2, h.3, h.4, h.5)
    IsWellForm-grown (Move object amount direction gives) ty h =
        (IsWell-grown object h.0, IsWell-grown amount h.1, h.2, IsElementPointer-grown ty h.3, h.4, h.5)
    IsWellForm-grown (Call number arguments) ty h =
        let found = grows.program.routines number h.1.0 h.1.1 in
        (AreWell-grown arguments h.0, (found.0, found.1, found.2 ∙ h.1.2, subst (AreValuesOf arguments) (sym found.3) h.1.3))
    IsWellForm-grown (Allocate a arguments element) ty h =
        (AreWell-grown arguments h.0, subst (λ m. AreValuesOf arguments (sizes_of m a)) grows.program.model h.1, h.2, h.3, h.4, Names-grown ty h.5)
    IsWellForm-grown (Free e) ty h = (IsWell-grown e h.0, h.1, h.2)

    AreWell-grown : (es : TypedList) → AreWell s es → AreWell t es
    AreWell-grown NoMore h = tt
    AreWell-grown (Further e others) h = (IsWell-grown e h.0, AreWell-grown others h.1)

  HasParts-grown : (ty : Shape) (types : List Shape) → HasParts s.program ty types → HasParts t.program ty types
  HasParts-grown (array element count) types h = h
  HasParts-grown (struct number) types h = (h.0, grows.program.table.members number h.0 h.1, h.2)
  HasParts-grown void types h = absurd h
  HasParts-grown (integer ty) types h = absurd h
  HasParts-grown (pointer target) types h = absurd h

  mutual
    -- a well-formed initializer remains well formed
    pub IsWellInitial-grown : (i : Initial) (ty : Shape) → IsWellInitial s ty i → IsWellInitial t ty i
    IsWellInitial-grown (Value v) ty h = (IsWell-grown v h.0, h.1)
    IsWellInitial-grown (Bytes bytes) ty h = h
    IsWellInitial-grown (Parts parts) ty h = (h.0, HasParts-grown ty h.0 h.1, AreWellParts-grown parts h.0 h.2)

    AreWellParts-grown : (parts : Initials) (types : List Shape) → AreWellParts s types parts → AreWellParts t types parts
    AreWellParts-grown NoPart types h = tt
    AreWellParts-grown (Part first others) [] h = absurd h
    AreWellParts-grown (Part first others) (ty ∷ types) h = (IsWellInitial-grown first ty h.0, AreWellParts-grown others types h.1)

  IsDroppedIfAny-grown : (e : Option Typed) → IsDroppedIfAny s e → IsDroppedIfAny t e
  IsDroppedIfAny-grown None h = tt
  IsDroppedIfAny-grown (Some e) h = (IsWell-grown e h.0, h.1)

  IsTestIfAny-grown : (e : Option Typed) → IsTestIfAny s e → IsTestIfAny t e
  IsTestIfAny-grown None h = tt
  IsTestIfAny-grown (Some e) h = (IsWell-grown e h.0, h.1)

  IsReturned-grown : (e : Option Typed) → IsReturned s e → IsReturned t e
  IsReturned-grown None h = sym grows.returns ∙ h
  IsReturned-grown (Some e) h = (IsWell-grown e h.0, (h.1.0, h.1.1 ∙ grows.returns))

  first-grown : (i : Option Initial) (ty other : Shape) → other ≡ ty → IfSome i (λ i. IsWellInitial s ty i) → IfSome i (λ i. IsWellInitial t other i)
  first-grown None ty other is h = tt
  first-grown (Some i) ty other is h = subst (λ x. IsWellInitial t x i) (sym is) (IsWellInitial-grown i ty h)

  label-grown : (label : ℕ) → label < s.labels → label < t.labels
  label-grown label h = omega (arith, grows.labels)

  mutual
    -- a well-formed statement remains well formed
    pub IsWellStatement-grown : (b : Statement) → IsWellStatement s b → IsWellStatement t b
    IsWellStatement-grown (Block at statements) h = AreWellStatements-grown statements h
    IsWellStatement-grown (Declare at number first) h =
        let found = grows.variables number h.0 h.1 in (found.0, found.1, first-grown first h.0.ty found.0.ty found.2 h.2)
    IsWellStatement-grown (Run at e) h = (IsWell-grown e h.0, h.1)
    IsWellStatement-grown (If at test body) h = (IsWell-grown test h.0, h.1, IsWellStatement-grown body h.2)
    IsWellStatement-grown (IfElse at test body other) h = (IsWell-grown test h.0, h.1, IsWellStatement-grown body h.2, IsWellStatement-grown other h.3)
    IsWellStatement-grown (While at test body) h = (IsWell-grown test h.0, h.1, IsWellStatement-grown body h.2)
    IsWellStatement-grown (Do at body test) h = (IsWell-grown test h.0, h.1, IsWellStatement-grown body h.2)
    IsWellStatement-grown (For at first test last body) h =
        (AreWellStatements-grown first h.0, IsTestIfAny-grown test h.1, IsDroppedIfAny-grown last h.2, IsWellStatement-grown body h.3)
    IsWellStatement-grown (Switch at value cases statements) h = (
      IsWell-grown value h.0,
      h.1,
      subst (λ m. AreCases m (type_of value) (count_of statements) cases) grows.program.model h.2,
      AreWellStatements-grown statements h.3,
    )
    IsWellStatement-grown (Goto at label) h = label-grown label h
    IsWellStatement-grown (Label at label body) h = (label-grown label h.0, IsWellStatement-grown body h.1)
    IsWellStatement-grown (Break at) h = tt
    IsWellStatement-grown (Continue at) h = tt
    IsWellStatement-grown (Return at value) h = IsReturned-grown value h

    AreWellStatements-grown : (bs : Statements) → AreWellStatements s bs → AreWellStatements t bs
    AreWellStatements-grown Empty h = tt
    AreWellStatements-grown (Then first others) h = (IsWellStatement-grown first h.0, AreWellStatements-grown others h.1)

  IsFunction-grown : (callee : Callee) (f : Signature) → IsFunction s.program callee f → IsFunction t.program callee f
  IsFunction-grown Malloc f h = (h.0, h.1 ∙ ap (λ m. sizes_of m allocator.Malloc) grows.program.model)
  IsFunction-grown Calloc f h = (h.0, h.1 ∙ ap (λ m. sizes_of m allocator.Calloc) grows.program.model)
  IsFunction-grown FreeOf f h = h
  IsFunction-grown (Numbered number) f h = let found = grows.program.routines number h.0 h.1 in (found.0, found.1, found.2 ∙ h.2, found.3 ∙ h.3)

  -- what a name denotes still exists
  pub IsThere-grown : (m : Meaning) → IsThere s m → IsThere t m
  IsThere-grown (Typedef ty) h = tt
  IsThere-grown (Constant value) h = subst (λ m. InRange m Int value) grows.program.model h
  IsThere-grown (GlobalName number ty) h = let found = grows.program.globals number h.0 h.1 in (found.0, found.1, found.2 ∙ h.2)
  IsThere-grown (LocalName number ty) h = let found = grows.variables number h.0 h.1 in (found.0, found.1, found.2 ∙ h.2)
  IsThere-grown (Function f) h = IsFunction-grown f.callee f h

  -- what is known still agrees with a program that has grown
  pub Agrees-grown : (c : Context) → TypesAroundAreNamed t → Agrees s c → Agrees t c
  Agrees-grown c types h = record {
    model = h.model ∙ grows.program.model;
    table = keeps-trans c.table.list s.program.table t.program.table h.table grows.program.table;
    declarations = All-weaker (λ (d : Declaration). IsThere s d.meaning) (λ (d : Declaration). IsThere t d.meaning)
        (λ d there. IsThere-grown d.meaning there) c.scope.declarations h.declarations;
    named = h.named;
    types = types;
  }

-- extension of programs is transitive
pub Extends-trans : (p q r : TypedProgram) → Extends p q → Extends q r → Extends p r
Extends-trans p q r h k = record {
  model = h.model ∙ k.model;
  table = keeps-trans p.table q.table r.table h.table k.table;
  literals = λ number bytes is. k.literals number bytes (h.literals number bytes is);
  globals = λ number g is. let one = h.globals number g is in let two = k.globals number one.0 one.1 in (two.0, two.1, two.2 ∙ one.2);
  routines = λ number o is. let one = h.routines number o is in let two = k.routines number one.0 one.1 in (two.0, two.1, two.2 ∙ one.2, two.3 ∙ one.3);
}

pub Extends-self : (p : TypedProgram) → Extends p p
Extends-self p = record {
  model = refl;
  table = keeps-self p.table;
  literals = λ number bytes is. is;
  globals = λ number g is. (g, is, refl);
  routines = λ number r is. (r, is, refl, refl);
}

-- so is growth of settings
pub Grows-trans : (s t u : Setting) → Grows s t → Grows t u → Grows s u
Grows-trans s t u h k = record {
  program = Extends-trans s.program t.program u.program h.program k.program;
  variables = λ number v is. let one = h.variables number v is in let two = k.variables number one.0 one.1 in (two.0, two.1, two.2 ∙ one.2);
  labels = omega (arith, h.labels, k.labels);
  returns = h.returns ∙ k.returns;
}

-- the same function, in a program that extends its own
pub Grows-inside : (s : Setting) (q : TypedProgram) → Extends s.program q → Grows s (record s { program = q })
Grows-inside s q h = record { program = h; variables = λ number v is. (v, is, refl); labels = omega arith; returns = refl }

HasConstantValues-grown : (p q : TypedProgram) (i : Initial) → Extends p q → HasConstantValues p.model i → HasConstantValues q.model i
HasConstantValues-grown p q i h held = subst (λ m. HasConstantValues m i) h.model held

-- a well-formed file-scope object remains well formed
pub IsWellGlobal-grown : (p q : TypedProgram) (g : FileObject) → Extends p q → IsWellGlobal p g → IsWellGlobal q g
IsWellGlobal-grown p q g h well =
    let grows = Grows-inside (outside p) q h in
    (IsWhole-grown (outside p) (outside q) grows g.ty well.0, first g.initial well.1, names-longer p.table q.table h.table.longer g.ty well.2)
  where
    first : (i : Option Initial) → IfSome i (λ i. IsWellInitial (outside p) g.ty i × HasConstantValues p.model i)
        → IfSome i (λ i. IsWellInitial (outside q) g.ty i × HasConstantValues q.model i)
    first None held = tt
    first (Some i) held = (IsWellInitial-grown (outside p) (outside q) (Grows-inside (outside p) q h) i g.ty held.0, HasConstantValues-grown p q i h held.1)

-- a well-formed function remains well formed
pub IsWellRoutine-grown : (p q : TypedProgram) (r : Routine) → Extends p q → IsWellRoutine p r → IsWellRoutine q r
IsWellRoutine-grown p q r h well = record {
  returns = well.returns;
  parameters = well.parameters;
  passed = well.passed;
  variables = All-weaker (λ (v : Variable). IsWhole p v.ty) (λ (v : Variable). IsWhole q v.ty)
      (λ v whole. IsWhole-grown (outside p) (outside q) (Grows-inside (outside p) q h) v.ty whole) r.variables well.variables;
  written = well.written;
  named = routine-longer p.table q.table h.table.longer r well.named;
  body = inside r.body well.body;
}
  where
    inside : (body : Option Statement) → IfSome body (IsWellBody p r) → IfSome body (IsWellBody q r)
    inside None held = tt
    inside (Some b) held = record {
      statement = IsWellStatement-grown (setting_of p r b) (setting_of q r b) (Grows-inside (setting_of p r b) q h) b held.statement;
      labels = held.labels;
      jumps = held.jumps;
    }
