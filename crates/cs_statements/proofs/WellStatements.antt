-- Typed statements are well formed in their function and program: for the contract of `typed`.
use Rattle.std.proofs.Common.{◌≡◌, ◌∙◌, ℕ, ℤ, ◌≤◌, ◌<◌, true, List, [], ◌∷◌, ◌++◌, length, take, refl, sym, ap, subst}
use Rattle.std.proofs.Common.{arith, ◌≢◌, false}
use Rattle.std.specs.Prelude.{nat_eq, Option, Some, None, IfSome, slice_get}
use Rattle.std.specs.List.{All}
use Rattle.std.proofs.lemmas.List.{append-nil, length_push, take_at}
use Rattle.std.proofs.lemmas.List.Elements.{All-push, All-take, All-weaker, All-nil}
use Rattle.std.proofs.lemmas.List.Quantifiers.{all_pairs_push}
use Rattle.cs_types.specs.Layout.{IsLaidOut}
use Rattle.cs_types.specs.Shape.{Shape}
use Rattle.cs_ast.specs.declared.place.Place.{Place}
use Rattle.cs_ast.specs.declared.raw.declaration.RawSpecs.{RawSpecs}
use Rattle.cs_ast.specs.declared.raw.declaration.RawFirstValue.{RawFirstValue}
use Rattle.cs_ast.specs.declared.raw.declaration.RawInit.{RawInit}
use Rattle.cs_ast.specs.declared.raw.expression.RawExpr.{RawExpr}
use Rattle.cs_ast.specs.declared.raw.statement.RawStmtKind as kinds
use Rattle.cs_ast.specs.declared.raw.statement.RawStmtKind.{RawStmtKind}
use Rattle.cs_ast.specs.declared.raw.statement.RawStmtKind.TheVariants as kind
use Rattle.cs_ast.specs.declared.raw.statement.RawItem.{RawItem}
use Rattle.cs_ast.specs.declared.raw.statement.RawItem as items
use Rattle.cs_ast.specs.declared.raw.statement.RawSwitchItem as switches
use Rattle.cs_ast.specs.declared.raw.statement.RawFirst.{RawFirst}
use Rattle.cs_ast.specs.declared.raw.statement.RawFirst.TheVariants as first_part
use Rattle.cs_ast.specs.declared.typed.statement.Case.{Case}
use Rattle.cs_ast.specs.RawView.{written}
use Rattle.cs_ast.specs.TypedTree.{Typed, Statement}
use Rattle.cs_ast.specs.TypedProgram.{Variable}
use Rattle.cs_scopes.specs.declared.refusal.TypeCode.TheVariants.{CaseTwice, Jump, Return}
use Rattle.cs_folding.specs.TypedParts.{type_of}
use Rattle.cs_scopes.specs.Verdicts.{Verdict, Fine, Fault, lift}
use Rattle.cs_consts.specs.Roles.{value_of, assigned_value, test_of, selector_of, discarded_value}
use Rattle.cs_scopes.specs.Meanings.{Declaration, Local}
use Rattle.cs_declarations.specs.Bodies.{Typing, specs_type}
use Rattle.cs_declarations.specs.Initializers.{InFunction, Reading, initial_typed}
use Rattle.cs_declarations.specs.Environment.{Environment, model_of, table_of, declarations_of, with_literals, is_declared_here}
use Rattle.cs_declarations.specs.Objects.{object_type}
use Rattle.cs_statements.specs.Locals.{Inside, knowing, LocalDeclared, TypedStatements, with_local, local_held, local_initialized, local_added, after_local}
use Rattle.cs_statements.specs.Locals.{locals_added}
use Rattle.cs_statements.specs.Statements.{word_fault, after_word}
use Rattle.cs_statements.specs.Statements.{Where, Part, Switching, in_loop, in_switch, in_a_row, part, past, tested_in, dropped_in, some_found, tested_if}
use Rattle.cs_statements.specs.Statements.{dropped_if, is_void, value_returned, returned, label_number, goto_typed, is_first, meeting, in_block, after_block}
use Rattle.cs_statements.specs.Statements.{declared_in, declaration_typed, first_place, no_statements, telling, ran_first, first_typed, is_case, case_put}
use Rattle.cs_statements.specs.Statements.{case_added, with_statements, block_made, run_made, if_made, if_else_made, while_made, do_made, for_made}
use Rattle.cs_statements.specs.Statements.{switch_made, return_made, label_made, selected, statement_typed, item_typed, items_typed, switch_item_typed}
use Rattle.cs_statements.specs.Statements.{switch_typed, body_typed, wrapped_in, constant_case}
use Rattle.cs_well_formed.specs.Structs.{NamesStructs, VariablesName}
use Rattle.cs_well_formed.specs.Expressions.{Setting, TypesAroundAreNamed, IsWell, IsValue, IsValueOf, IsScalarValue, IsIntegerValue, IsWhole}
use Rattle.cs_well_formed.specs.Initials.{IsWellInitial}
use Rattle.cs_well_formed.specs.Constants.{HasConstants}
use Rattle.cs_well_formed.specs.Statements.{IsWellStatement, AreWellStatements, IsDroppedIfAny, IsTestIfAny, IsReturned, IsCase, IsNumberOf, AreCases}
use Rattle.cs_well_formed.specs.Agreement.{Keeps, KnownTypesAreNamed, IsThere, Agrees, AreFirst}
use Rattle.cs_well_formed.specs.Laws.{IsTyped}
use Rattle.cs_well_formed.specs.Leading.{Leads, AreVariables}
use Rattle.cs_well_formed.proofs.Verdicts.{IfFine, if_fine-any, if_fine-weaker, lift-then, cond-then}
use Rattle.cs_well_formed.proofs.Names.{first-part, literals-begin}
use Rattle.cs_well_formed.proofs.Doors.{assigned_value-well, test_of-well, selector_of-well, discarded_value-well}
use Rattle.cs_well_formed.proofs.Initials.{initial-well}
use Rattle.cs_well_formed.proofs.Leading.{specs_type-leads, object_type-whole}
use Rattle.cs_well_formed.proofs.NamedTypes.{NamedOn, TypeNamed, specs_type-named, object_type-named, declaring-known, entered-known, left-known}
use Rattle.cs_well_formed.proofs.Structs.{found-at, keeps-trans, names-longer, variables-longer}
use Rattle.cs_statements.proofs.DeclarationsAfter.{Starts, starts-self, starts-trans, DeclaresOn, TypeDeclaresOn, specs_type-on}
use Rattle.cs_statements.proofs.HeldConstants.{FirstValueHasConstants, ObjectsHaveConstants, AnyHasConstants, FirstHasConstants, StatementHasConstants}
use Rattle.cs_statements.proofs.HeldConstants.{ItemHasConstants, RowHasConstants, SwitchItemHasConstants, SwitchHasConstants, ItemsHaveConstants}
use Rattle.cs_statements.proofs.NumberedCases.{count-length, new-case, wrapped_in-number, void-is}
use Rattle.cs_statements.proofs.LedJumps.{label_number-below}
use Rattle.cs_statements.proofs.LiteralsAfter.{GoesOnFrom, initial_typed-begins}
use Rattle.cs_statements.proofs.AfterWords.{after_word-then}

-- ---- rules under a premise

-- a property of a value that holds under a premise
pub under : {A : Type 0} (Q : Type 0) (P : A → Type 0) (v : Verdict A) → (Q → IfFine v P) → IfFine v (λ a. Q → P a)
under Q P (Fine a) h = h
under Q P (Fault code place) h = tt

-- two properties of one value
pub both-fine : {A : Type 0} (P Q : A → Type 0) (v : Verdict A) → IfFine v P → IfFine v Q → IfFine v (λ a. P a × Q a)
both-fine P Q (Fine a) h k = (h, k)
both-fine P Q (Fault code place) h k = tt

-- ---- variables

found-before : (variables : List Variable) (v w : Variable) (number : ℕ) → slice_get variables number ≡ Some w
    → slice_get (variables ++ v ∷ []) number ≡ Some w
found-before [] v w number is = absurd cc
found-before (x ∷ vs) v w ℕ.zero is = is
found-before (x ∷ vs) v w (ℕ.suc number) is = found-before vs v w number is

found-last : (variables : List Variable) (v : Variable) → slice_get (variables ++ v ∷ []) (length variables) ≡ Some v
found-last [] v = refl
found-last (x ∷ vs) v = found-last vs v

-- the context of statements: a function of a program whose structs have layouts
module _ (s : Setting) (laid_out : IsLaidOut s.program.model s.program.table) where
  -- the program and the function have all that is known here, and the declared types name structs
  pub record Has (i : Inside) : Type 0 where
    pub table : Keeps (table_of i.known) s.program.table
    pub texts : AreFirst s.program i.known.literals
    pub variables : AreVariables s i.variables
    pub types : TypesAroundAreNamed s

  -- what is declared here exists, and the variables so far have complete types
  pub record AreThere (i : Inside) : Type 0 where
    pub declared : All (λ (d : Declaration). IsThere s d.meaning) (declarations_of i.known)
    pub whole : All (λ (v : Variable). IsWhole s.program v.ty) i.variables

  -- what is known here uses the data model of the program, and its types name structs of the table so far
  pub record Knows (i : Inside) : Type 0 where
    pub model : model_of i.known ≡ s.program.model
    pub known : KnownTypesAreNamed i.known.context
    pub variables : VariablesName (table_of i.known) i.variables

  -- between two points: something is well formed, if the program has what is known at the second one
  pub record Gives (i j : Inside) (Well : Type 0) : Type 0 where
    pub knows : Knows i → Knows j
    pub longer : length (table_of i.known) ≤ length (table_of j.known)
    pub scope : Starts (declarations_of i.known) (declarations_of j.known)
    pub variables : Starts i.variables j.variables
    pub before : Has j → Has i
    pub there : Has j → AreThere i → AreThere j
    pub well : Has j → AreThere i → Well

  agrees : (i : Inside) → Knows i → Has i → AreThere i → Agrees s i.known.context
  agrees i knows has there = record { model = knows.model; table = has.table; declarations = there.declared; named = knows.known; types = has.types }

  nothing : (i : Inside) → Gives i i (Unit {0})
  nothing i = record {
    knows = λ h. h;
    longer = omega arith;
    scope = starts-self (declarations_of i.known);
    variables = starts-self i.variables;
    before = λ h. h;
    there = λ h t. t;
    well = λ h t. tt;
  }

  -- a consequence of what is well formed
  so : {A B : Type 0} (i j : Inside) → Gives i j A → (A → B) → Gives i j B
  so i j g follows = record {
    knows = g.knows;
    longer = g.longer;
    scope = g.scope;
    variables = g.variables;
    before = g.before;
    there = g.there;
    well = λ h t. follows (g.well h t);
  }

  -- one part after another
  both : {A B : Type 0} (i j k : Inside) → Gives i j A → Gives j k B → Gives i k (A × B)
  both i j k g h = record {
    knows = λ is. h.knows (g.knows is);
    longer = omega (arith, g.longer, h.longer);
    scope = starts-trans (declarations_of i.known) (declarations_of j.known) (declarations_of k.known) g.scope h.scope;
    variables = starts-trans i.variables j.variables k.variables g.variables h.variables;
    before = λ has. g.before (h.before has);
    there = λ has t. h.there has (g.there (h.before has) t);
    well = λ has t. (g.well (h.before has) t, h.well has (g.there (h.before has) t));
  }

  -- inside of a new scope, and after a label
  block-knows : (i : Inside) → Knows i → Knows (in_block i)
  block-knows i is = record { model = is.model; known = entered-known i.known is.known; variables = is.variables }

  met-knows : (i : Inside) → Knows i → Knows (meeting i)
  met-knows i is = record { model = is.model; known = is.known; variables = is.variables }

  -- from the point before a scope begins
  entering : {A : Type 0} (i j : Inside) → Gives (in_block i) j A → Gives i j A
  entering i j g = record {
    knows = λ is. g.knows (block-knows i is);
    longer = g.longer;
    scope = g.scope;
    variables = g.variables;
    before = λ has. let inner = g.before has in record { table = inner.table; texts = inner.texts; variables = inner.variables; types = inner.types };
    there = λ has t. g.there has (record { declared = t.declared; whole = t.whole });
    well = λ has t. g.well has (record { declared = t.declared; whole = t.whole });
  }

  -- to the point after a scope that began here ends
  leaving : {A : Type 0} (i j : Inside) → Gives i j A → Gives i (after_block i j) A
  leaving i j g = record {
    knows = λ is. let following = g.knows is in
        record { model = following.model; known = left-known i.known j.known following.known; variables = following.variables };
    longer = g.longer;
    scope = (
      [],
      ap (take (length (declarations_of i.known))) g.scope.1
          ∙ take_at (declarations_of i.known) g.scope.0 (length (declarations_of i.known)) refl
          ∙ sym (append-nil (declarations_of i.known)),
    );
    variables = g.variables;
    before = λ has. g.before (inside has);
    there = λ has t. let following = g.there (inside has) t in record {
      declared = All-take (λ (d : Declaration). IsThere s d.meaning) (length (declarations_of i.known)) (declarations_of j.known) following.declared;
      whole = following.whole;
    };
    well = λ has t. g.well (inside has) t;
  }
    where
      inside : Has (after_block i j) → Has j
      inside has = record { table = has.table; texts = has.texts; variables = has.variables; types = has.types }

  -- the next label occurs
  met-one : {A : Type 0} (i j : Inside) → Gives (meeting i) j A → Gives i j A
  met-one i j g = record {
    knows = λ is. g.knows (met-knows i is);
    longer = g.longer;
    scope = g.scope;
    variables = g.variables;
    before = λ has. let inner = g.before has in record { table = inner.table; texts = inner.texts; variables = inner.variables; types = inner.types };
    there = λ has t. g.there has (record { declared = t.declared; whole = t.whole });
    well = λ has t. g.well has (record { declared = t.declared; whole = t.whole });
  }

  -- ---- expressions

  abbrev pub GivesPart : {A : Type 0} → Inside → (A → Type 0) → Part A → Type 0
  GivesPart i Well p = Gives i p.inside (Well p.found)

  expression-well : (i : Inside) (e : RawExpr) (Well : Typed → Type 0) (v : Verdict Typed) → Knows i → HasConstants (written e)
      → (IsTyped s i.known.context i.known.literals e.kind.value → IfFine v Well) →
      IfFine (lift (part (past e i)) v) (GivesPart i Well)
  expression-well i e Well v knows fit h =
      lift-then (λ a. IsTyped s i.known.context i.known.literals e.kind.value → Well a) (GivesPart i Well) (part (past e i)) v
      (under (IsTyped s i.known.context i.known.literals e.kind.value) Well v h)
      (λ a well. record {
        knows =
            λ is. record {
              model = is.model;
              known = record { declarations = is.known.declarations; tags = is.known.tags; members = is.known.members };
              variables = is.variables;
            };
        longer = omega arith;
        scope = starts-self (declarations_of i.known);
        variables = starts-self i.variables;
        before = before;
        there = λ has t. record { declared = t.declared; whole = t.whole };
        well = λ has t. well (record { agrees = agrees i knows (before has) t; constants = fit; texts = has.texts });
      })
    where
      before : Has (past e i) → Has i
      before has = record {
        table = has.table;
        texts = first-part s.program i.known.literals _ (literals-begin i.known.literals e.kind.value) has.texts;
        variables = has.variables;
        types = has.types;
      }

  abbrev IsTest : Typed → Type 0
  IsTest e = IsWell s e × IsScalarValue e

  abbrev IsDropped : Typed → Type 0
  IsDropped e = IsWell s e × IsValue e

  tested_in-well : (at : Place) (i : Inside) (e : RawExpr) → Knows i → HasConstants (written e) → IfFine (tested_in at i e) (GivesPart i IsTest)
  tested_in-well at i e knows fit =
      expression-well i e IsTest (test_of i.known.context i.known.literals at e) knows fit (λ h. test_of-well s i.known.context i.known.literals e h at)

  dropped_in-well : (i : Inside) (e : RawExpr) → Knows i → HasConstants (written e) → IfFine (dropped_in i e) (GivesPart i IsDropped)
  dropped_in-well i e knows fit =
      expression-well i e IsDropped (discarded_value i.known.context i.known.literals e) knows fit
      (λ h. discarded_value-well s i.known.context i.known.literals e h)

  tested_if-well : (at : Place) (i : Inside) (e : Option RawExpr) → Knows i → AnyHasConstants e → IfFine (tested_if at i e) (GivesPart i (IsTestIfAny s))
  tested_if-well at i None knows fit = nothing i
  tested_if-well at i (Some e) knows fit =
      lift-then (GivesPart i IsTest) (GivesPart i (IsTestIfAny s)) some_found (tested_in at i e) (tested_in-well at i e knows fit) (λ p g. g)

  dropped_if-well : (i : Inside) (e : Option RawExpr) → Knows i → AnyHasConstants e → IfFine (dropped_if i e) (GivesPart i (IsDroppedIfAny s))
  dropped_if-well i None knows fit = nothing i
  dropped_if-well i (Some e) knows fit =
      lift-then (GivesPart i IsDropped) (GivesPart i (IsDroppedIfAny s)) some_found (dropped_in i e) (dropped_in-well i e knows fit) (λ p g. g)

  selected-well : (at : Place) (i : Inside) (e : RawExpr) → Knows i → HasConstants (written e)
      → IfFine (selected at i e) (GivesPart i (λ v. IsWell s v × IsIntegerValue v))
  selected-well at i e knows fit =
      expression-well i e (λ v. IsWell s v × IsIntegerValue v) (selector_of i.known.context i.known.literals at e) knows fit
      (λ h. selector_of-well s i.known.context i.known.literals e h at)

  -- ---- declarations

  -- a list of well-formed statements
  abbrev Row : List Statement → Type 0
  Row statements = AreWellStatements s (in_a_row statements)

  row-push : (statements : List Statement) (last : Statement) → Row statements → IsWellStatement s last → Row (statements ++ last ∷ [])
  row-push [] last h k = (k, tt)
  row-push (first ∷ statements) last h k = (h.0, row-push statements last h.1 k)

  pub record Yields (so_far reported : TypedStatements) : Type 0 where
    pub gives : Gives so_far.inside reported.inside (Row so_far.statements → Row reported.statements)
    pub longer : length so_far.statements ≤ length reported.statements

  yields-nothing : (so_far : TypedStatements) → Yields so_far so_far
  yields-nothing so_far = record { gives = so so_far.inside so_far.inside (nothing so_far.inside) (λ _ row. row); longer = omega arith }

  yields-on : (a b c : TypedStatements) → Yields a b → Yields b c → Yields a c
  yields-on a b c h k = record {
    gives = so a.inside c.inside (both a.inside b.inside c.inside h.gives k.gives) (λ r row. r.1 (r.0 row));
    longer = omega (arith, h.longer, k.longer);
  }

  yields-one : (before : List Statement) (i j : Inside) (last : Statement) → Gives i j (IsWellStatement s last)
      → Yields (record { statements = before; inside = i }) (record { statements = before ++ last ∷ []; inside = j })
  yields-one before i j last g = record {
    gives = so i j g (λ well row. row-push before last row well);
    longer = let more = length_push before last in omega (arith, more);
  }

  abbrev GivesLocal : Inside → LocalDeclared → Type 0
  GivesLocal i one = Gives i one.inside (IsWellStatement s one.statement)

  -- the variable exists, with its type
  abbrev IsVariable : ℕ → Shape → Type 0
  IsVariable number ty = (v : Variable) × (slice_get s.variables number ≡ Some v) × (v.ty ≡ ty)

  -- after the declarator of a local of a complete type
  with_local-gives : (name : List ℕ) (ty : Shape) (i : Inside) → NamesStructs (table_of i.known) ty → Knows i
      → (Agrees s i.known.context → IsWhole s.program ty) →
      Gives i (with_local name ty i) (IsVariable (length i.variables) ty × IsWhole s.program ty)
  with_local-gives name ty i named knows whole = record {
    knows = λ is. record {
      model = is.model;
      known = declaring-known name (Local (length i.variables) ty) i.known tt is.known;
      variables = All-push (λ (v : Variable). NamesStructs (table_of i.known) v.ty) i.variables variable is.variables named;
    };
    longer = omega arith;
    scope = (record { name = name; meaning = Local (length i.variables) ty } ∷ [], refl);
    variables = (variable ∷ [], refl);
    before = before;
    there = λ has t. record {
      declared = All-push (λ (d : Declaration). IsThere s d.meaning) (declarations_of i.known)
          (record { name = name; meaning = Local (length i.variables) ty }) t.declared (last has);
      whole = All-push (λ (v : Variable). IsWhole s.program v.ty) i.variables variable t.whole (whole (agrees i knows (before has) t));
    };
    well = λ has t. (last has, whole (agrees i knows (before has) t));
  }
    where
      variable : Variable
      variable = record { name = name; ty = ty; block = None }

      before : Has (with_local name ty i) → Has i
      before has = record {
        table = has.table;
        texts = has.texts;
        variables = λ number v is. has.variables number v (found-before i.variables variable v number is);
        types = has.types;
      }

      last : Has (with_local name ty i) → IsVariable (length i.variables) ty
      last has = has.variables (length i.variables) variable (found-last i.variables variable)

  local_initialized-well : (number : ℕ) (ty : Shape) (at : Place) (first : Option RawFirstValue) (i j : Inside)
      → Gives i j (IsVariable number ty × IsWhole s.program ty) → Knows i → FirstValueHasConstants first →
      IfFine (local_initialized number ty at first j) (GivesLocal i)
  local_initialized-well number ty at None i j g knows fit = so i j g (λ r. (r.0.0, r.0.1, tt))
  local_initialized-well number ty at (Some value) i j g knows fit =
      let v = initial_typed j.known.context j.known.literals InFunction value.place ty value.initial in
      lift-then (λ (r : Reading).
      (Agrees s j.known.context × IsWhole s.program ty × NamesStructs s.program.table ty → AreFirst s.program r.1 → IsWellInitial s ty r.0)
      × GoesOnFrom j.known.literals r)
      (GivesLocal i) (local_held number value.place j) v
      (both-fine (λ (r : Reading). Agrees s j.known.context × IsWhole s.program ty × NamesStructs s.program.table ty → AreFirst s.program r.1
      → IsWellInitial s ty r.0) (GoesOnFrom j.known.literals) v
      (under (Agrees s j.known.context × IsWhole s.program ty × NamesStructs s.program.table ty)
      (λ (r : Reading). AreFirst s.program r.1 → IsWellInitial s ty r.0) v
      (λ h. initial-well s j.known.context h.0 laid_out InFunction value.place j.known.literals ty value.initial h.1 h.2 fit))
      (initial_typed-begins j.known.context j.known.literals InFunction value.place ty value.initial))
      (λ r h. held r h.0 h.1)
    where
      held : (r : Reading) → (Agrees s j.known.context × IsWhole s.program ty × NamesStructs s.program.table ty → AreFirst s.program r.1
          → IsWellInitial s ty r.0) → GoesOnFrom j.known.literals r →
          IfFine (local_held number value.place j r) (GivesLocal i)
      held r well begins = record {
        knows = λ is. let following = g.knows is in record {
          model = following.model;
          known = record { declarations = following.known.declarations; tags = following.known.tags; members = following.known.members };
          variables = following.variables;
        };
        longer = g.longer;
        scope = g.scope;
        variables = g.variables;
        before = λ has. g.before (at_equal has);
        there = λ has t. let following = g.there (at_equal has) t in record { declared = following.declared; whole = following.whole };
        well = λ has t.
            let is = g.well (at_equal has) t in
            let known = agrees j (g.knows knows) (at_equal has) (g.there (at_equal has) t) in
            let named = subst (NamesStructs s.program.table) is.0.2
            (found-at (λ (v : Variable). NamesStructs s.program.table v.ty) s.variables number is.0.0 has.types.variables is.0.1) in
            (is.0.0, is.0.1, subst (λ x. IsWellInitial s x r.0) (sym is.0.2) (well (known, is.1, named) has.texts));
      }
        where
          at_equal : Has (knowing (with_literals r.1 j.known) j) → Has j
          at_equal has = record {
            table = has.table;
            texts = first-part s.program j.known.literals r.1 begins has.texts;
            variables = has.variables;
            types = has.types;
          }

  local_added-well : (base : Shape) (d : RawInit) (i : Inside) → NamesStructs (table_of i.known) base → Knows i → FirstValueHasConstants d.initial
      → IfFine (local_added base d i) (GivesLocal i)
  local_added-well base d i named knows fit =
      cond-then (GivesLocal i) (is_declared_here d.declarator.name i.known) _ _ (λ _. tt)
      (λ _.
      lift-then (λ ty. (Agrees s i.known.context → IsWhole s.program ty) × NamesStructs (table_of i.known) ty) (GivesLocal i) _
      (object_type i.known.context base d)
      (both-fine (λ ty. Agrees s i.known.context → IsWhole s.program ty) (NamesStructs (table_of i.known)) (object_type i.known.context base d)
      (under (Agrees s i.known.context) (IsWhole s.program) (object_type i.known.context base d) (λ h. object_type-whole s i.known.context h base d))
      (object_type-named i.known.context base d named))
      (λ ty whole.
      local_initialized-well (length i.variables) ty d.declarator.place d.initial i (with_local d.declarator.name ty i)
      (with_local-gives d.declarator.name ty i whole.1 knows whole.0) knows fit))

  locals_added-well : (base : Shape) (ds : List RawInit) (so_far : TypedStatements) → NamesStructs (table_of so_far.inside.known) base → Knows so_far.inside
      → ObjectsHaveConstants ds → IfFine (locals_added base ds so_far) (Yields so_far)
  locals_added-well base [] so_far named knows fit = yields-nothing so_far
  locals_added-well base (d ∷ ds) so_far named knows fit =
      lift-then (Yields so_far) (Yields so_far) (locals_added base ds) _
      (lift-then (GivesLocal so_far.inside) (Yields so_far) (after_local so_far.statements) _ (local_added-well base d so_far.inside named knows fit.0)
      (λ one g. yields-one so_far.statements so_far.inside one.inside one.statement g))
      (λ reported h. if_fine-weaker (Yields reported) (Yields so_far) (locals_added base ds reported)
      (locals_added-well base ds reported (names-longer (table_of so_far.inside.known) (table_of reported.inside.known) h.gives.longer base named)
      (h.gives.knows knows) fit.1) (λ after k. yields-on so_far reported after h k))

  -- after the specifiers of a declaration
  knowing-gives : (i : Inside) (k : Environment) → Leads s i.known k → DeclaresOn i.known k → NamedOn i.known k → Gives i (knowing k i) (Unit {0})
  knowing-gives i k leads on named = record {
    knows = λ is. record {
      model = leads.model ∙ is.model;
      known = named.known;
      variables = variables-longer (table_of i.known) (table_of k) named.longer i.variables is.variables;
    };
    longer = named.longer;
    scope = (on.more, on.declarations);
    variables = starts-self i.variables;
    before = λ has. record {
      table = keeps-trans (table_of i.known) (table_of k) s.program.table leads.table has.table;
      texts = subst (AreFirst s.program) leads.literals has.texts;
      variables = has.variables;
      types = has.types;
    };
    there = λ has t. record { declared = leads.declarations t.declared; whole = t.whole };
    well = λ has t. tt;
  }

  declaration_typed-well : (words : RawSpecs) (objects : List RawInit) (so_far : TypedStatements) → Knows so_far.inside → ObjectsHaveConstants objects
      → IfFine (declaration_typed words objects so_far) (Yields so_far)
  declaration_typed-well words objects so_far knows fit =
      let typing = specs_type so_far.inside.known (first_place objects) words in
      lift-then (λ (r : Typing). Leads s so_far.inside.known r.1 × (TypeDeclaresOn so_far.inside.known r × TypeNamed so_far.inside.known r)) (Yields so_far)
      (declared_in words objects so_far) typing
      (both-fine (λ (r : Typing). Leads s so_far.inside.known r.1) (λ (r : Typing). TypeDeclaresOn so_far.inside.known r × TypeNamed so_far.inside.known r)
      typing
      (specs_type-leads s so_far.inside.known (first_place objects) words knows.model)
      (both-fine (TypeDeclaresOn so_far.inside.known) (TypeNamed so_far.inside.known) typing
      (specs_type-on so_far.inside.known (first_place objects) words) (specs_type-named so_far.inside.known (first_place objects) words knows.known)))
      (λ ty led.
      let known = knowing ty.1 so_far.inside in
      let begun : Yields so_far (record { statements = so_far.statements; inside = known }) =
      record { gives = so so_far.inside known (knowing-gives so_far.inside ty.1 led.0 led.1.0 led.1.1.0) (λ _ row. row); longer = omega arith } in
      if_fine-weaker (Yields (record { statements = so_far.statements; inside = known })) (Yields so_far) _
      (locals_added-well ty.0 objects (record { statements = so_far.statements; inside = known }) led.1.1.1 (begun.gives.knows knows) fit)
      (λ after k. yields-on so_far _ after begun k))

  first_typed-well : (i : Inside) (first : RawFirst) → Knows i → FirstHasConstants first
      → IfFine (first_typed i first) (λ reported. Gives i reported.inside (Row reported.statements))
  first_typed-well i first_part.Empty knows fit = nothing i
  first_typed-well i (first_part.Run e) knows fit =
      lift-then (GivesPart i IsDropped) (λ (reported : TypedStatements). Gives i reported.inside (Row reported.statements)) (ran_first e.place)
      (dropped_in i e) (dropped_in-well i e knows fit) (λ p g. so i p.inside g (λ well. (well, tt)))
  first_typed-well i (first_part.Declare words objects) knows fit =
      if_fine-weaker (Yields (no_statements i)) (λ (reported : TypedStatements). Gives i reported.inside (Row reported.statements))
      (declaration_typed words objects.items (no_statements i)) (declaration_typed-well words objects.items (no_statements i) knows fit)
      (λ reported h. so i reported.inside h.gives (λ row. row tt))

  -- ---- cases

  -- the cases of a `switch` on a value of a type
  abbrev HasCases : Shape → Switching → Type 0
  HasCases ty so_far = AreCases s.program.model ty (length so_far.reported.statements) so_far.cases

  -- a `switch` after more items
  pub record Switches (ty : Shape) (so_far after : Switching) : Type 0 where
    pub reported : Yields so_far.reported after.reported
    pub cases : HasCases ty so_far → HasCases ty after

  no-cases : (ty : Shape) → AreCases s.program.model ty 0 []
  no-cases ty = record { each = All-nil (IsCase s.program.model ty 0); apart = λ i j d below within. absurd (omega (arith, within)) }

  switches-on : (ty : Shape) (a b c : Switching) → Switches ty a b → Switches ty b c → Switches ty a c
  switches-on ty a b c h k = record { reported = yields-on a.reported b.reported c.reported h.reported k.reported; cases = λ all. k.cases (h.cases all) }

  case_added-well : (ty : Shape) (at : Place) (so_far : Switching) (value : Option ℤ) → IfSome value (IsNumberOf s.program.model ty)
      → IfFine (case_added at so_far value) (Switches ty so_far)
  case_added-well ty at so_far value number =
      lift-then Put (Switches ty so_far) _ (case_put at value count so_far.cases)
      (cond-then Put (is_case value so_far.cases) (Fault CaseTwice at) _ (λ _. tt) (λ new. put new))
      (λ cases h. record { reported = yields-nothing so_far.reported; cases = h })
    where
      count : ℕ
      count = length so_far.reported.statements

      Put : List Case → Type 0
      Put cases = HasCases ty so_far → AreCases s.program.model ty count cases

      put : is_case value so_far.cases ≡ false → Put (so_far.cases ++ record { value = value; item = count } ∷ [])
      put new h = record {
        each = All-push (IsCase s.program.model ty count) so_far.cases (record { value = value; item = count }) h.each
            (record { item = omega arith; number = number });
        apart = all_pairs_push (λ (c : Case) (d : Case). c.value ≢ d.value) so_far.cases (record { value = value; item = count }) h.apart
            (new-case value so_far.cases new);
      }

  -- the value of a `case` is converted to the type, modulo its size if needed
  constant_case-well : (ty : Shape) (at : Place) (so_far : Switching) (n : ℤ) → Knows so_far.reported.inside
      → IfFine (constant_case at so_far ty n) (Switches ty so_far)
  constant_case-well ty at so_far n knows =
      case_added-well ty at so_far (Some (wrapped_in (model_of so_far.reported.inside.known) ty n))
      (subst (λ m. IsNumberOf m ty (wrapped_in (model_of so_far.reported.inside.known) ty n)) knows.model
      (wrapped_in-number (model_of so_far.reported.inside.known) ty n))

  with_reported-well : (ty : Shape) (so_far : Switching) (reported : TypedStatements) → Yields so_far.reported reported
      → IfFine (with_statements so_far reported) (Switches ty so_far)
  with_reported-well ty so_far reported h =
      record { reported = h; cases = λ all. record { each = All-weaker Before Following further so_far.cases all.each; apart = all.apart } }
    where
      Before : Case → Type 0
      Before c = IsCase s.program.model ty (length so_far.reported.statements) c

      Following : Case → Type 0
      Following c = IsCase s.program.model ty (length reported.statements) c

      further : (c : Case) → Before c → Following c
      further c fits = record { item = omega (arith, fits.item, h.longer); number = fits.number }

  -- ---- statements

  -- the result and the labels of the function around a statement
  abbrev pub Fits : Where → Type 0
  Fits w = (w.returns ≡ s.returns) × (length w.labels ≤ s.labels)

  value_returned-well : (w : Where) (at : Place) (i : Inside) (e : RawExpr) → w.returns ≡ s.returns → Knows i → HasConstants (written e)
      → IfFine (value_returned w at i e) (GivesPart i (λ v. IsWell s v × IsValueOf v w.returns))
  value_returned-well w at i e same knows fit =
      cond-then (GivesPart i (λ v. IsWell s v × IsValueOf v w.returns)) (is_void w.returns) (Fault Return at) _ (λ _. tt)
      (λ _. expression-well i e (λ v. IsWell s v × IsValueOf v w.returns) (assigned_value i.known.context i.known.literals at w.returns e) knows fit
      (λ h. assigned_value-well s i.known.context i.known.literals e h at w.returns (subst (NamesStructs s.program.table) (sym same) h.agrees.types.returns)))

  returned-well : (w : Where) (at : Place) (i : Inside) (e : Option RawExpr) → w.returns ≡ s.returns → Knows i → AnyHasConstants e
      → IfFine (returned w at i e) (GivesPart i (IsReturned s))
  returned-well w at i None same knows fit =
      cond-then (GivesPart i (IsReturned s)) (is_void w.returns) _ (Fault Return at) (λ is. so i i (nothing i) (λ _. sym same ∙ void-is w.returns is))
      (λ _. tt)
  returned-well w at i (Some e) same knows fit =
      lift-then (GivesPart i (λ v. IsWell s v × IsValueOf v w.returns)) (GivesPart i (IsReturned s)) some_found (value_returned w at i e)
      (value_returned-well w at i e same knows fit)
      (λ p g. so i p.inside g (λ well. subst (λ ty. IsWell s p.found × IsValueOf p.found ty) same well))

  goto_typed-well : (at : Place) (i : Inside) (number : Option ℕ) → IfSome number (λ n. n < s.labels)
      → IfFine (goto_typed at i number) (GivesPart i (IsWellStatement s))
  goto_typed-well at i (Some number) h = so i i (nothing i) (λ _. h)
  goto_typed-well at i None h = tt

  label-below : (w : Where) (name : List ℕ) → Fits w → IfSome (label_number name w.labels) (λ n. n < s.labels)
  label-below w name fits = weaker (label_number name w.labels) (label_number-below name w.labels)
    where
      weaker : (number : Option ℕ) → IfSome number (λ n. n < length w.labels) → IfSome number (λ n. n < s.labels)
      weaker None h = tt
      weaker (Some n) h = omega (arith, h, fits.1)

  -- the label that occurs has the number of its name
  met-below : (i : Inside) (number : Option ℕ) → IfSome number (λ n. n < s.labels) → is_first i number ≡ true → i.met < s.labels
  met-below i None h first = absurd cc
  met-below i (Some n) h first = subst (λ m. m < s.labels) (nat_same n i.met first) h
    where
      nat_same : (a b : ℕ) → nat_eq a b ≡ true → a ≡ b
      nat_same a b is = grind (arith)

  abbrev GivesStatement : Inside → Part Statement → Type 0
  GivesStatement i p = GivesPart i (IsWellStatement s) p

  mutual
    pub statement_typed-well : (w : Where) (i : Inside) (at : Place) (k : RawStmtKind) → Fits w → Knows i → StatementHasConstants k
        → IfFine (statement_typed w i at k) (GivesStatement i)
    statement_typed-well w i at (kind.Block' shape row) fits knows fit =
        lift-then (Yields (no_statements (in_block i))) (GivesStatement i) (block_made at i) _
        (items_typed-well w row (no_statements (in_block i)) fits (block-knows i knows) fit)
        (λ reported h. leaving i reported.inside (entering i reported.inside (so (in_block i) reported.inside h.gives (λ row. row tt))))
    statement_typed-well w i at kind.Empty fits knows fit = nothing i
    statement_typed-well w i at (kind.Run e) fits knows fit =
        lift-then (GivesPart i IsDropped) (GivesStatement i) (run_made at) (dropped_in i e) (dropped_in-well i e knows fit) (λ p g. g)
    statement_typed-well w i at (kind.If' test place p body) fits knows fit =
        lift-then (GivesPart i IsTest) (GivesStatement i) _ (tested_in at i test) (tested_in-well at i test knows fit.0)
        (λ t g.
        lift-then (GivesStatement t.inside) (GivesStatement i) (if_made at t.found) _
        (statement_typed-well w t.inside place body fits (g.knows knows) fit.1)
        (λ b h. so i b.inside (both i t.inside b.inside g h) (λ r. (r.0.0, r.0.1, r.1))))
    statement_typed-well w i at (kind.IfElse' test place p body place' q other) fits knows fit =
        lift-then (GivesPart i IsTest) (GivesStatement i) _ (tested_in at i test) (tested_in-well at i test knows fit.0)
        (λ t g. lift-then (GivesStatement t.inside) (GivesStatement i) _ _ (statement_typed-well w t.inside place body fits (g.knows knows) fit.1)
        (λ one h.
        let front = both i t.inside one.inside g h in
        lift-then (GivesStatement one.inside) (GivesStatement i) (if_else_made at t.found one.found) _
        (statement_typed-well w one.inside place' other fits (front.knows knows) fit.2)
        (λ b k. so i b.inside (both i one.inside b.inside front k) (λ r. (r.0.0.0, r.0.0.1, r.0.1, r.1)))))
    statement_typed-well w i at (kind.While' test place p body) fits knows fit =
        lift-then (GivesPart i IsTest) (GivesStatement i) _ (tested_in at i test) (tested_in-well at i test knows fit.0)
        (λ t g.
        lift-then (GivesStatement t.inside) (GivesStatement i) (while_made at t.found) _
        (statement_typed-well (in_loop w) t.inside place body fits (g.knows knows) fit.1)
        (λ b h. so i b.inside (both i t.inside b.inside g h) (λ r. (r.0.0, r.0.1, r.1))))
    statement_typed-well w i at (kind.Do' place p body test) fits knows fit =
        lift-then (GivesStatement i) (GivesStatement i) _ (after_word at (word_fault at i (Some test)) (statement_typed (in_loop w) i place body))
        (after_word-then (GivesStatement i) at (word_fault at i (Some test)) (statement_typed (in_loop w) i place body)
        (statement_typed-well (in_loop w) i place body fits knows fit.0))
        (λ b g.
        lift-then (GivesPart b.inside IsTest) (GivesStatement i) (do_made at b.found) (tested_in at b.inside test)
        (tested_in-well at b.inside test (g.knows knows) fit.1)
        (λ t h. so i t.inside (both i b.inside t.inside g h) (λ r. (r.1.0, r.1.1, r.0))))
    statement_typed-well w i at (kind.For' first test last place p body) fits knows fit =
        let Begun = λ (f : TypedStatements). Gives (in_block i) f.inside (Row f.statements) in
        lift-then Begun (GivesStatement i) _ (after_word at (word_fault at (in_block i) test) (first_typed (in_block i) first))
        (after_word-then Begun at (word_fault at (in_block i) test) (first_typed (in_block i) first)
        (first_typed-well (in_block i) first (block-knows i knows) fit.0))
        (λ f g.
        lift-then (GivesPart f.inside (IsTestIfAny s)) (GivesStatement i) _ (tested_if at f.inside test)
        (tested_if-well at f.inside test (g.knows (block-knows i knows)) fit.1)
        (λ t h.
        let tested = both (in_block i) f.inside t.inside g h in
        lift-then (GivesPart t.inside (IsDroppedIfAny s)) (GivesStatement i) _ (dropped_if t.inside last)
        (dropped_if-well t.inside last (tested.knows (block-knows i knows)) fit.2)
        (λ l k.
        let front = both (in_block i) t.inside l.inside tested k in
        lift-then (GivesStatement l.inside) (GivesStatement i) (for_made at i f.statements t.found l.found) _
        (statement_typed-well (in_loop w) l.inside place body fits (front.knows (block-knows i knows)) fit.3)
        (λ b m.
        leaving i b.inside
        (entering i b.inside (so (in_block i) b.inside (both (in_block i) l.inside b.inside front m) (λ r. (r.0.0.0, r.0.0.1, r.0.1, r.1))))))))
    statement_typed-well w i at (kind.Switch' value shape row) fits knows fit =
        lift-then (GivesPart i (λ v. IsWell s v × IsIntegerValue v)) (GivesStatement i) _ (selected at i value) (selected-well at i value knows fit.0)
        (λ v g. let begun : Switching = record { cases = []; reported = no_statements (in_block v.inside) } in
        lift-then (Switches (type_of v.found) begun) (GivesStatement i) (switch_made at i v.found) _
        (switch_typed-well (in_switch w) (type_of v.found) row begun fits (block-knows v.inside (g.knows knows)) fit.1)
        (λ all h.
        let cases = subst (λ n. AreCases s.program.model (type_of v.found) n all.cases) (sym (count-length all.reported.statements))
        (h.cases (no-cases (type_of v.found))) in
        leaving i all.reported.inside
        (so i all.reported.inside
        (both i v.inside all.reported.inside g
        (entering v.inside all.reported.inside (so (in_block v.inside) all.reported.inside h.reported.gives (λ row. row tt))))
        (λ r. (r.0.0, r.0.1, cases, r.1)))))
    statement_typed-well w i at (kind.Goto label) fits knows fit = goto_typed-well at i (label_number label w.labels) (label-below w label fits)
    statement_typed-well w i at kind.Continue fits knows fit = cond-then (GivesStatement i) w.continues _ (Fault Jump at) (λ _. nothing i) (λ _. tt)
    statement_typed-well w i at kind.Break fits knows fit = cond-then (GivesStatement i) w.breaks _ (Fault Jump at) (λ _. nothing i) (λ _. tt)
    statement_typed-well w i at (kind.Return value) fits knows fit =
        lift-then (GivesPart i (IsReturned s)) (GivesStatement i) (return_made at) (returned w at i value) (returned-well w at i value fits.0 knows fit)
        (λ p g. g)
    statement_typed-well w i at (kind.Label' name place p body) fits knows fit =
        cond-then (GivesStatement i) (is_first i (label_number name w.labels)) _ (Fault Jump at)
        (λ first.
        let below = met-below i (label_number name w.labels) (label-below w name fits) first in
        lift-then (GivesStatement (meeting i)) (GivesStatement i) (label_made at i.met) _
        (statement_typed-well w (meeting i) place body fits (met-knows i knows) fit)
        (λ b g. met-one i b.inside (so (meeting i) b.inside g (λ well. (below, well)))))
        (λ _. tt)

    pub item_typed-well : (w : Where) (item : RawItem) (so_far : TypedStatements) → Fits w → Knows so_far.inside → ItemHasConstants item
        → IfFine (item_typed w item so_far) (Yields so_far)
    item_typed-well w (items.TheVariants.Declare words objects) so_far fits knows fit = declaration_typed-well words objects.items so_far knows fit
    item_typed-well w (items.TheVariants.Run' place p body) so_far fits knows fit =
        lift-then (GivesStatement so_far.inside) (Yields so_far) (telling so_far.statements) _ (statement_typed-well w so_far.inside place body fits knows fit)
        (λ p g. yields-one so_far.statements so_far.inside p.inside p.found g)

    items_typed-well : {n : _} → (w : Where) (row : kinds.Row_of-RawItem n) (so_far : TypedStatements) → Fits w → Knows so_far.inside
        → RowHasConstants row → IfFine (items_typed w row so_far) (Yields so_far)
    items_typed-well w kinds.end_of-RawItem so_far fits knows fit = yields-nothing so_far
    items_typed-well w (kinds.more_of-RawItem first others) so_far fits knows fit =
        lift-then (Yields so_far) (Yields so_far) (items_typed w others) _ (item_typed-well w first so_far fits knows fit.0)
        (λ reported h.
        if_fine-weaker (Yields reported) (Yields so_far) (items_typed w others reported)
        (items_typed-well w others reported fits (h.gives.knows knows) fit.1) (λ after k. yields-on so_far reported after h k))

    switch_item_typed-well : (w : Where) (ty : Shape) (item : switches.RawSwitchItem) (so_far : Switching) → Fits w → Knows so_far.reported.inside
        → SwitchItemHasConstants item → IfFine (switch_item_typed w ty item so_far) (Switches ty so_far)
    switch_item_typed-well w ty (switches.TheVariants.Case at value) so_far fits knows fit =
        lift-then (λ _. Unit {0}) (Switches ty so_far) _ _ (if_fine-any (value_of so_far.reported.inside.known.context value))
        (λ n _. constant_case-well ty at so_far n.1 knows)
    switch_item_typed-well w ty (switches.TheVariants.Default at) so_far fits knows fit = case_added-well ty at so_far None tt
    switch_item_typed-well w ty (switches.TheVariants.Item i) so_far fits knows fit =
        lift-then (Yields so_far.reported) (Switches ty so_far) (with_statements so_far) _ (item_typed-well w i so_far.reported fits knows fit)
        (λ reported h. with_reported-well ty so_far reported h)

    switch_typed-well : {n : _} → (w : Where) (ty : Shape) (row : kinds.Row_of-RawSwitchItem n) (so_far : Switching) → Fits w
        → Knows so_far.reported.inside → SwitchHasConstants row → IfFine (switch_typed w ty row so_far) (Switches ty so_far)
    switch_typed-well w ty kinds.end_of-RawSwitchItem so_far fits knows fit = record { reported = yields-nothing so_far.reported; cases = λ all. all }
    switch_typed-well w ty (kinds.more_of-RawSwitchItem first others) so_far fits knows fit =
        lift-then (Switches ty so_far) (Switches ty so_far) (switch_typed w ty others) _ (switch_item_typed-well w ty first so_far fits knows fit.0)
        (λ next h.
        if_fine-weaker (Switches ty next) (Switches ty so_far) (switch_typed w ty others next)
        (switch_typed-well w ty others next fits (h.reported.gives.knows knows) fit.1) (λ after k. switches-on ty so_far next after h k))

  -- the body of a function
  pub body_typed-well : (w : Where) (list : List RawItem) (so_far : TypedStatements) → Fits w → Knows so_far.inside → ItemsHaveConstants list
      → IfFine (body_typed w list so_far) (Yields so_far)
  body_typed-well w [] so_far fits knows fit = yields-nothing so_far
  body_typed-well w (first ∷ others) so_far fits knows fit =
      lift-then (Yields so_far) (Yields so_far) (body_typed w others) _ (item_typed-well w first so_far fits knows fit.0)
      (λ reported h.
      if_fine-weaker (Yields reported) (Yields so_far) (body_typed w others reported) (body_typed-well w others reported fits (h.gives.knows knows) fit.1)
      (λ after k. yields-on so_far reported after h k))
