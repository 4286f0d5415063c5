-- The functions of files are well formed: for the contract of `typed`.
use Rattle.std.proofs.Common.{◌≡◌, ◌≢◌, ◌∙◌, ℕ, ◌+◌, ◌≤◌, ◌<◌, Bool, true, false, List, [], ◌∷◌, ◌++◌, length, drop}
use Rattle.std.proofs.Common.{take, get_or, inl, inr, refl, sym, ap, subst, arith}
use Rattle.std.specs.Prelude.{nat_eq, ◌⊎◌, ◌&&◌, ◌||◌, not, codes, Option, Some, None, IfSome, is_some, slice_get}
use Rattle.std.specs.List.{All}
use Rattle.std.specs.Cmp.Lexicographic.{pointwise}
use Rattle.std.proofs.lemmas.Bool.{or_cases}
use Rattle.std.proofs.lemmas.List.{append-nil, length-append, length-map, length-take-le, take_all}
use Rattle.std.proofs.lemmas.List.Elements.{All-nil, All-push, All-drop, All-append, All-same, All-weaker, All-map}
use Rattle.std.proofs.lemmas.Option.{same_Some, slice_get-get_or}
use Rattle.cs_names.proofs.Comparisons.{same_bytes, equal_to_same}
use Rattle.cs_types.specs.declared.data_model.DataModel.{DataModel}
use Rattle.cs_types.specs.Layout.{IsLaidOut}
use Rattle.cs_types.specs.Shape.{Shape, void, integer, pointer, array, struct, same_shape}
use Rattle.cs_types.specs.ShapeEquality.{same_shape-true}
use Rattle.cs_ast.specs.declared.raw.declaration.RawFunction.{RawFunction}
use Rattle.cs_ast.specs.declared.raw.declaration.RawParameters.{RawParameters}
use Rattle.cs_ast.specs.declared.raw.external.RawBody.{RawBody}
use Rattle.cs_ast.specs.TypedTree.{Statement, Block}
use Rattle.cs_ast.specs.TypedProgram.{TypedProgram, Variable, Routine}
use Rattle.cs_scopes.specs.declared.refusal.TypeCode.TheVariants.{DeclaredTwice, IncompleteType}
use Rattle.cs_scopes.specs.declared.scope.Callee.{Callee}
use Rattle.cs_scopes.specs.declared.scope.Callee.TheVariants.{Malloc, Calloc, Free, Numbered}
use Rattle.cs_scopes.specs.Meanings.{Meaning, Typedef, Constant, Global, Local, Function, Signature, Declaration}
use Rattle.cs_scopes.specs.Scopes.{newest}
use Rattle.cs_scopes.specs.TypeNames.{starred}
use Rattle.cs_scopes.specs.Verdicts.{Verdict, Fine, Fault, lift}
use Rattle.cs_declarations.specs.Environment.{table_of, declarations_of, meaning_here, entered, left}
use Rattle.cs_declarations.specs.Parameters.{Head, parameters_typed}
use Rattle.cs_statements.specs.Locals.{TypedStatements, Inside}
use Rattle.cs_statements.specs.Statements.{in_a_row, no_statements, body_typed, labels_of_items}
use Rattle.cs_file_scope.specs.Objects.{Filed, changed}
use Rattle.cs_file_scope.specs.Functions.{is_result, same_types, types_of, has_body, may_be_function, bodiless, numbered, number_in, Routed, new_function}
use Rattle.cs_file_scope.specs.Functions.{function_of, declared_once}
use Rattle.cs_file_scope.specs.Order.{is_of_library}
use Rattle.cs_file_scope.specs.Beginning.{allocators}
use Rattle.cs_typing.specs.Functions.{declared_inside, bodied, with_body, at_beginning, where_in, body_added, completed, outside_of, headed}
use Rattle.cs_typing.specs.Functions.{resulted, function_added}
use Rattle.cs_well_formed.specs.Structs.{NamesStructs, VariablesName, HasNamedTypes}
use Rattle.cs_well_formed.specs.Expressions.{Setting, IsScalar, IsWhole, parameter_types}
use Rattle.cs_well_formed.specs.Statements.{label_counts}
use Rattle.cs_well_formed.specs.Programs.{setting_of, outside, IsResult, IsWellRoutine}
use Rattle.cs_well_formed.specs.Agreement.{IsNamed, IsFunction, IsThere}
use Rattle.cs_well_formed.specs.Leading.{Leads, AreVariables}
use Rattle.cs_well_formed.proofs.Verdicts.{IfFine, if_fine-at, if_fine-weaker, lift-then, cond-then, both_true}
use Rattle.cs_well_formed.proofs.Leading.{parameters_typed-leads}
use Rattle.cs_well_formed.proofs.NamedTypes.{starred-named, declaring-known, entered-known, left-known, HeadNamed, parameters_typed-named}
use Rattle.cs_well_formed.proofs.Structs.{found-at, names-longer, variables-longer, globals-longer, routine-longer, routines-longer, meaning-longer}
use Rattle.cs_statements.proofs.DeclarationsAfter.{Starts, starts-trans, start-take, IsPlain, DeclaresOn, parameters_typed-on, AreScalars, HeadDeclaresOn}
use Rattle.cs_statements.proofs.HeldConstants.{ItemsHaveConstants}
use Rattle.cs_statements.proofs.LedJumps.{ReportedIsLed, body_typed-led}
use Rattle.cs_statements.proofs.WellStatements.{both-fine, Has as HasInside, Knows, Yields, body_typed-well, AreThere}
use Rattle.cs_typing.proofs.FilesSoFar.{start-All, found-start, both-All, changed-length, changed-at, changed-other, changed-found, changed-All, newest-All}
use Rattle.cs_typing.proofs.FilesSoFar.{IsOther, newest-none, newest-start, HasNumber, there-inside, IsCounted, with_parts, Kept, Has, Adds, adds-self}
use Rattle.cs_typing.proofs.FilesSoFar.{adds-trans, HasGlobal, HasRoutine, all-there-kept, known-adds}
use Rattle.cs_typing.proofs.OrderedNames.{IsOrdered, IsPlaced, number-names}
use Rattle.cs_typing.proofs.RepeatedNames.{once-then}

-- a property of a value that holds for each element of a type
for-each : {A : Type 0} (Q : Type 0) (P : Q → A → Type 0) (v : Verdict A) → ((q : Q) → IfFine v (P q)) → IfFine v (λ a. (q : Q) → P q a)
for-each Q P (Fine a) h = h
for-each Q P (Fault code place) h = tt

-- a result that is a value equals that value
pub itself : {A : Type 0} (v : Verdict A) → IfFine v (λ a. v ≡ Fine a)
itself (Fine a) = refl
itself (Fault code place) = tt

same_types-true : (types others : List Shape) → same_types types others ≡ true → types ≡ others
same_types-true [] [] h = refl
same_types-true [] (other ∷ others) h = absurd cc
same_types-true (ty ∷ types) [] h = absurd cc
same_types-true (ty ∷ types) (other ∷ others) h =
    let both = both_true (same_shape ty other) (same_types types others) h in
    ap (λ t. t ∷ types) (same_shape-true ty other both.0) ∙ ap (λ ts. other ∷ ts) (same_types-true types others both.1)

-- a type that a function may return is a scalar or `void`
result-is : (ty : Shape) → is_result ty ≡ true → IsResult ty
result-is void h = inl refl
result-is (integer kind) h = inr (inl (kind, refl))
result-is (pointer target) h = inr (inr (target, refl))
result-is (array element count) h = absurd cc
result-is (struct number) h = absurd cc

-- the functions of the library are declared before a file
library-declared : (model : DataModel) (name : List ℕ) → is_of_library name ≡ true → is_some (newest name (allocators model)) ≡ true
library-declared model name h =
    by_way (or_cases (pointwise nat_eq name (codes "malloc") || pointwise nat_eq name (codes "calloc")) (pointwise nat_eq name (codes "free")) h)
  where
    named : (other : List ℕ) → pointwise nat_eq name other ≡ true → is_some (newest other (allocators model)) ≡ true
        → is_some (newest name (allocators model)) ≡ true
    named other is found = subst (λ n. is_some (newest n (allocators model)) ≡ true) (sym (same_bytes name other is)) found

    by_first : (pointwise nat_eq name (codes "malloc") ≡ true) ⊎ (pointwise nat_eq name (codes "calloc") ≡ true)
        → is_some (newest name (allocators model)) ≡ true
    by_first (inl is) = named (codes "malloc") is refl
    by_first (inr is) = named (codes "calloc") is refl

    by_way : ((pointwise nat_eq name (codes "malloc") || pointwise nat_eq name (codes "calloc")) ≡ true) ⊎ (pointwise nat_eq name (codes "free") ≡ true)
        → is_some (newest name (allocators model)) ≡ true
    by_way (inl is) = by_first (or_cases (pointwise nat_eq name (codes "malloc")) (pointwise nat_eq name (codes "calloc")) is)
    by_way (inr is) = named (codes "free") is refl

-- the types of the first variables, if they are the parameters
types-first : (parameters : List Variable) (variables : List Variable) → Starts parameters variables
    → types_of (take (length parameters) variables) ≡ types_of parameters
types-first parameters variables h = ap types_of (start-take parameters variables h)

-- a function has as many parameters as parameter types
count-is : (r : Routine) (parameters : List Variable) → IsCounted r → parameter_types r ≡ types_of parameters → r.parameters ≡ length parameters
count-is r parameters counted is =
    let taken = length-take-le r.parameters r.variables counted in
    sym taken ∙ sym (length-map (take r.parameters r.variables) (λ (v : Variable). v.ty)) ∙ ap length is
    ∙ length-map parameters (λ (v : Variable). v.ty)

-- the body of a function, if it has one, has no constant that is too wide
abbrev pub BodyHasConstants : Option RawBody → Type 0
BodyHasConstants None = Unit {0}
BodyHasConstants (Some body) = ItemsHaveConstants body.items.items

module _ (p : TypedProgram) (laid_out : IsLaidOut p.model p.table) where
  -- ---- heads

  -- what is known after the parameters of a function
  record IsHead (f : Filed) (head : Head) : Type 0 where
    on : DeclaresOn (entered f.known) head.known
    written : length head.written ≡ length head.variables
    scalars : AreScalars head.variables
    named : HeadNamed (entered f.known) head
    leads : (s : Setting) → s.program.model ≡ p.model → AreVariables s head.variables → Leads s (entered f.known) head.known

  abbrev Around : Type 0
  Around = (s : Setting) × (s.program.model ≡ p.model)

  head-is : (f : Filed) (raw : RawParameters) → Kept p f → IfFine (parameters_typed (entered f.known) raw) (IsHead f)
  head-is f raw kept =
      let v = parameters_typed (entered f.known) raw in
      let IsOn : Head → Type 0 = HeadDeclaresOn (entered f.known) in
      let IsLed : Around → Head → Type 0 = λ s head. AreVariables s.0 head.variables → Leads s.0 (entered f.known) head.known in
      if_fine-weaker (λ head. (IsOn head × HeadNamed (entered f.known) head) × ((s : Around) → IsLed s head)) (IsHead f) v
      (both-fine (λ head. IsOn head × HeadNamed (entered f.known) head) (λ head. (s : Around) → IsLed s head) v
      (both-fine IsOn (HeadNamed (entered f.known)) v (parameters_typed-on (entered f.known) raw)
      (parameters_typed-named (entered f.known) raw (entered-known f.known kept.types.known)))
      (for-each Around IsLed v (λ s. parameters_typed-leads s.0 (entered f.known) raw (kept.model ∙ sym s.1))))
      (λ head h. record { on = h.0.0.known; written = h.0.0.written; scalars = h.0.0.scalars; named = h.0.1; leads = λ s same are. h.1 (s, same) are })

  -- the declarations outside of the parameters are those before the function
  same-outside : (f : Filed) (head : Head) → IsHead f head → declarations_of (outside_of f head).known ≡ declarations_of f.known
  same-outside f head h = start-take (declarations_of f.known) (declarations_of head.known) (h.on.more, h.on.declarations)

  outside-adds : (f : Filed) (head : Head) → Kept p f → IsHead f head → Adds p f (outside_of f head)
  outside-adds f head kept h =
      let alone : Setting = record { program = p; variables = head.variables; labels = 0; returns = void } in
      let leads = h.leads alone refl (λ number v is. (v, is, refl)) in
      known-adds p f (left f.known head.known) kept
      (record {
        model = leads.model;
        literals = leads.literals;
        table = leads.table;
        named = left-known f.known head.known h.named.0.known;
        on = record {
          more = [];
          declarations = same-outside f head h ∙ sym (append-nil (declarations_of f.known));
          plain = All-nil (λ (d : Declaration). IsPlain d.meaning);
          outer = refl;
        };
        declared = λ all. All-same (λ (d : Declaration). IsThere (outside (with_parts p f)) d.meaning) (declarations_of (left f.known head.known))
            (declarations_of f.known) (same-outside f head h) all;
      })

  -- ---- names

  -- the name of a function isn't declared yet, or it is that of a function with this result
  abbrev MayStand : Filed → RawFunction → Shape → Option Meaning → Type 0
  MayStand f d result None = All (IsOther d.name) (declarations_of f.known) × IsOrdered f.order d.name
  MayStand f d result (Some (Function before)) = (before.result ≡ result) × IsFunction (with_parts p f) before.callee before
  MayStand f d result (Some (Typedef ty)) = ⊥
  MayStand f d result (Some (Constant value)) = ⊥
  MayStand f d result (Some (Global number ty)) = ⊥
  MayStand f d result (Some (Local number ty)) = ⊥

  may-stand : (f : Filed) (d : RawFunction) (result : Shape) (before : Filed) (with_body : Bool) (m : Option Meaning)
      → may_be_function before with_body result m ≡ true → IfSome m (IsThere (outside (with_parts p f)))
      → (m ≡ None → All (IsOther d.name) (declarations_of f.known) × IsOrdered f.order d.name) → MayStand f d result m
  may-stand f d result before with_body None may there new = new refl
  may-stand f d result before with_body (Some (Function sig)) may there new =
      (same_shape-true sig.result result (both_true (same_shape sig.result result) (not (with_body && has_body before sig.callee)) may).0, there)
  may-stand f d result before with_body (Some (Typedef ty)) may there new = absurd cc
  may-stand f d result before with_body (Some (Constant value)) may there new = absurd cc
  may-stand f d result before with_body (Some (Global number ty)) may there new = absurd cc
  may-stand f d result before with_body (Some (Local number ty)) may there new = absurd cc

  -- a name that isn't declared in a file isn't that of a library function, so it has an index in the order
  new-name : (f : Filed) (name : List ℕ) → Kept p f → IsPlaced f.order name → meaning_here name f.known ≡ None
      → All (IsOther name) (declarations_of f.known) × IsOrdered f.order name
  new-name f name kept placed none = (newest-none name (declarations_of f.known) whole, by_way placed)
    where
      whole : newest name (declarations_of f.known) ≡ None
      whole = subst (λ n. newest name (drop n (declarations_of f.known)) ≡ None) kept.outer none

      by_way : IsPlaced f.order name → IsOrdered f.order name
      by_way (inr ordered) = ordered
      by_way (inl library) =
          let found : is_some (newest name (declarations_of f.known)) ≡ true =
          ap (λ ds. is_some (newest name ds)) kept.library.1
          ∙ newest-start name (allocators p.model) kept.library.0 (library-declared p.model name library) in
          absurd cc

  -- ---- declared functions

  -- scalars are complete
  scalar-whole : (ty : Shape) → IsScalar ty → IsWhole p ty
  scalar-whole ty (inl kind) = subst (IsWhole p) (sym kind.1) refl
  scalar-whole ty (inr target) = subst (IsWhole p) (sym target.1) refl

  whole-scalars : (variables : List Variable) → AreScalars variables → All (λ (v : Variable). IsWhole p v.ty) variables
  whole-scalars variables h = All-weaker (λ (v : Variable). IsScalar v.ty) (λ (v : Variable). IsWhole p v.ty) (λ v scalar. scalar-whole v.ty scalar)
      variables h

  -- the function exists, with its types
  abbrev IsRouted : Filed → Shape → List Variable → Callee → Type 0
  IsRouted f result parameters (Numbered number) = (r : Routine) × (slice_get f.routines number ≡ Some r) × (r.returns ≡ result)
      × (parameter_types r ≡ types_of parameters)
  IsRouted f result parameters Malloc = Unit {0}
  IsRouted f result parameters Calloc = Unit {0}
  IsRouted f result parameters Free = Unit {0}

  abbrev AddsFunction : Filed → Shape → List Variable → Routed → Type 0
  AddsFunction f result parameters r = Adds p f r.1 × IsRouted r.1 result parameters r.0

  same-globals : (f : Filed) (number : ℕ) (x : _) → slice_get f.globals number ≡ Some x → HasGlobal p f number x.ty
  same-globals f number x is = (x, is, refl)

  -- a new function, at its index in the order
  new_function-adds : (f : Filed) (d : RawFunction) (result : Shape) (parameters : List Variable) (written : List Bool)
      → NamesStructs (table_of f.known) result → VariablesName (table_of f.known) parameters → Kept p f →
      All (IsOther d.name) (declarations_of f.known) → IsOrdered f.order d.name → IsResult result → length written ≡ length parameters
      → AreScalars parameters → AddsFunction f result parameters (new_function f d result parameters written)
  new_function-adds f d result parameters written named parameters_named kept other ordered fits long scalars = (added, new)
    where
      slot : ℕ
      slot = number_in f.order d.name

      made : Routine
      made = bodiless d result parameters written

      after : Filed
      after = (new_function f d result parameters written).1

      declaration : Declaration
      declaration = record { name = d.name; meaning = Function (numbered slot result parameters) }

      within : slot < length f.routines
      within = omega (arith, ordered, kept.order)

      types : parameter_types made ≡ types_of parameters
      types = ap types_of (take_all (length parameters) parameters (omega arith))

      new : (r : Routine) × (slice_get after.routines slot ≡ Some r) × (r.returns ≡ result) × (parameter_types r ≡ types_of parameters)
      new = (made, changed-at (λ blank. made) slot f.routines (get_or f.routines slot made) (slice_get-get_or f.routines slot made within), refl, types)

      -- another function has another number
      apart : (name : List ℕ) (number : ℕ) → pointwise nat_eq name d.name ≡ false → number ≡ number_in f.order name → number ≢ slot
      apart name number differs is same =
          let names : name ≡ d.name = number-names f.order name d.name (sym is ∙ same) (subst (λ n. n < length f.order) (sym (sym is ∙ same)) ordered) in
          let alike : pointwise nat_eq name d.name ≡ true = equal_to_same name d.name names in
          absurd cc

      function-kept : (name : List ℕ) (callee : Callee) (sig : Signature) → pointwise nat_eq name d.name ≡ false
          → HasNumber f.order name (Function (record { callee = callee; result = sig.result; parameters = sig.parameters }))
          → IsFunction (with_parts p f) callee sig → IsFunction (with_parts p after) callee sig
      function-kept name Malloc sig differs is h = h
      function-kept name Calloc sig differs is h = h
      function-kept name Free sig differs is h = h
      function-kept name (Numbered number) sig differs is h =
          (h.0, changed-other (λ blank. made) slot number f.routines (apart name number differs is) ∙ h.1, h.2, h.3)

      there-still : (name : List ℕ) (m : Meaning) → pointwise nat_eq name d.name ≡ false → HasNumber f.order name m
          → IsThere (outside (with_parts p f)) m → IsThere (outside (with_parts p after)) m
      there-still name (Typedef ty) differs is h = tt
      there-still name (Constant value) differs is h = h
      there-still name (Global number ty) differs is h = h
      there-still name (Local number ty) differs is h = h
      there-still name (Function sig) differs is h = function-kept name sig.callee sig differs is h

      old : All (λ (x : Declaration). IsThere (outside (with_parts p after)) x.meaning) (declarations_of f.known)
      old =
          let IsDeclared : Declaration → Type 0 = λ x. IsThere (outside (with_parts p f)) x.meaning in
          let IsNumbered : Declaration → Type 0 = λ x. HasNumber f.order x.name x.meaning in
          All-weaker (λ (x : Declaration). IsOther d.name x × (IsNumbered x × IsDeclared x))
          (λ (x : Declaration). IsThere (outside (with_parts p after)) x.meaning)
          (λ x h. there-still x.name x.meaning h.0 h.1.0 h.1.1) (declarations_of f.known)
          (both-All (IsOther d.name) (λ (x : Declaration). IsNumbered x × IsDeclared x) (declarations_of f.known) other
          (both-All IsNumbered IsDeclared (declarations_of f.known) kept.numbered kept.declared))

      before : Has p after → Has p f
      before has = record {
        table = has.table;
        texts = has.texts;
        there = start-All (λ (x : Declaration). IsThere (outside p) x.meaning) (declarations_of f.known) (declarations_of after.known)
            (declaration ∷ [], refl) has.there;
        types = has.types;
      }

      made-named : HasNamedTypes (table_of f.known) made
      made-named = record { returns = named; variables = parameters_named }

      well-made : Has p after → IsWellRoutine p made
      well-made has = record {
        returns = fits;
        parameters = omega arith;
        passed = subst (All IsScalar) (sym types) (All-map IsScalar (λ (v : Variable). v.ty) parameters scalars);
        variables = whole-scalars parameters scalars;
        written = long;
        named = routine-longer (table_of f.known) p.table has.table.longer made made-named;
        body = tt;
      }

      added : Adds p f after
      added = record {
        order = refl;
        kept = record {
          model = kept.model;
          outer = kept.outer;
          library = starts-trans (allocators p.model) (declarations_of f.known) (declarations_of after.known) kept.library (declaration ∷ [], refl);
          order = changed-length (λ blank. made) slot f.routines ∙ kept.order;
          declared = All-push (λ (x : Declaration). IsThere (outside (with_parts p after)) x.meaning) (declarations_of f.known) declaration old new;
          numbered = All-push (λ (x : Declaration). HasNumber f.order x.name x.meaning) (declarations_of f.known) declaration kept.numbered refl;
          counted = changed-All (λ blank. made) IsCounted slot f.routines (λ r _ _. omega arith) kept.counted;
          types = record {
            known = declaring-known d.name (Function (numbered slot result parameters)) f.known tt kept.types.known;
            globals = kept.types.globals;
            routines = changed-All (λ blank. made) (HasNamedTypes (table_of f.known)) slot f.routines (λ r _ _. made-named) kept.types.routines;
          };
        };
        longer = omega arith;
        before = before;
        well = λ has w. record {
          globals = w.globals;
          routines = changed-All (λ blank. made) (IsWellRoutine p) slot f.routines (λ r _ _. well-made has) w.routines;
        };
      }

  -- a function that was declared with these types, one for one
  again-routed : (f : Filed) (result : Shape) (parameters : List Variable) (callee : Callee) (before : Signature) → before.result ≡ result
      → before.parameters ≡ types_of parameters → IsFunction (with_parts p f) callee before → IsRouted f result parameters callee
  again-routed f result parameters (Numbered number) before same types h = (h.0, h.1, h.2 ∙ same, h.3 ∙ types)
  again-routed f result parameters Malloc before same types h = tt
  again-routed f result parameters Calloc before same types h = tt
  again-routed f result parameters Free before same types h = tt

  function_of-adds : (f : Filed) (d : RawFunction) (result : Shape) (parameters : List Variable) (written : List Bool) (m : Option Meaning)
      → NamesStructs (table_of f.known) result → VariablesName (table_of f.known) parameters →
      Kept p f → MayStand f d result m → IsResult result → length written ≡ length parameters → AreScalars parameters
      → IfFine (function_of f d result parameters written m) (AddsFunction f result parameters)
  function_of-adds f d result parameters written None named parameters_named kept may fits long scalars =
      new_function-adds f d result parameters written named parameters_named kept may.0 may.1 fits long scalars
  function_of-adds f d result parameters written (Some (Function before)) named parameters_named kept may fits long scalars =
      cond-then (AddsFunction f result parameters) (same_types before.parameters (types_of parameters)) _ (Fault DeclaredTwice d.place)
      (λ same. (
        adds-self p f kept,
        again-routed f result parameters before.callee before may.0 (same_types-true before.parameters (types_of parameters) same) may.1,
      )) (λ _. tt)
  function_of-adds f d result parameters written (Some (Typedef ty)) named parameters_named kept may fits long scalars = absurd may
  function_of-adds f d result parameters written (Some (Constant value)) named parameters_named kept may fits long scalars = absurd may
  function_of-adds f d result parameters written (Some (Global number ty)) named parameters_named kept may fits long scalars = absurd may
  function_of-adds f d result parameters written (Some (Local number ty)) named parameters_named kept may fits long scalars = absurd may

  -- ---- bodies

  -- a function with its body, in whose scope its parameters are declared
  bodied-adds : (f g : Filed) (d : RawFunction) (body : RawBody) (result : Shape) (head : Head) (number : ℕ) (r : Routine) (reported : TypedStatements)
      → Adds p f g → length (table_of head.known) ≤ length (table_of g.known) → IsHead f head →
      slice_get g.routines number ≡ Some r → r.returns ≡ result → parameter_types r ≡ types_of head.variables → ItemsHaveConstants body.items.items
      →
      body_typed (where_in result body) body.items.items (no_statements (at_beginning g head.variables (declared_inside f.known head.known))) ≡ Fine reported
      → IfFine (with_body d body number g reported) (Adds p g)
  bodied-adds f g d body result head number r reported adds longer h found returns types fit is = record {
    order = refl;
    kept = record {
      model = following.model;
      outer = kept.outer;
      library = subst (Starts (allocators p.model)) (sym same) kept.library;
      order = changed-length change number g.routines ∙ kept.order;
      declared = subst (All (λ (x : Declaration). IsThere (outside (with_parts p after)) x.meaning)) (sym same)
          (all-there-kept p g after (λ n x at. (x, at, refl)) routines-kept (declarations_of g.known) kept.declared);
      numbered = subst (All (λ (x : Declaration). HasNumber g.order x.name x.meaning)) (sym same) kept.numbered;
      counted = changed-All change IsCounted number g.routines (λ x at counted. counted-still x at) kept.counted;
      types = record {
        known = left-known g.known reported.inside.known following.known;
        globals = globals-longer (table_of g.known) (table_of reported.inside.known) yields.gives.longer g.globals kept.types.globals;
        routines = changed-All change (HasNamedTypes (table_of reported.inside.known)) number g.routines
            (λ x _ n. record { returns = n.returns; variables = following.variables })
            (routines-longer (table_of g.known) (table_of reported.inside.known) yields.gives.longer g.routines kept.types.routines);
      };
    };
    longer = omega (arith, adds.longer, yields.gives.longer);
    before = before;
    well =
        λ has w. record {
          globals = w.globals;
          routines = changed-All change (IsWellRoutine p) number g.routines (λ x at well. well-still has x at well) w.routines;
        };
  }
    where
      kept : Kept p g
      kept = adds.kept

      inner : List Declaration
      inner = declared_inside f.known head.known

      begun : Inside
      begun = at_beginning g head.variables inner

      block : Statement
      block = Block body.opening (in_a_row reported.statements)

      change : Routine → Routine
      change = bodied d body reported

      s : Setting
      s = setting_of p (change r) block

      after : Filed
      after = record { known = left g.known reported.inside.known; globals = g.globals; order = g.order; routines = changed number change g.routines }

      -- the body has all labels of the function
      led : ReportedIsLed (where_in result body) (no_statements begun) (length (labels_of_items body.items.items)) reported
      led = if_fine-at (ReportedIsLed (where_in result body) (no_statements begun) (length (labels_of_items body.items.items))) _ reported
          (body_typed-led (where_in result body) body.items.items (no_statements begun)) is

      labels : length (labels_of_items body.items.items) ≤ label_counts (in_a_row reported.statements)
      labels = let all : label_counts (in_a_row reported.statements) ≡ 0 + length (labels_of_items body.items.items) = led.count in omega (arith, all)

      -- what is known at the beginning of the body
      begun-knows : Knows s laid_out begun
      begun-knows = record {
        model = kept.model;
        known = record {
          declarations = All-append (λ (x : Declaration). IsNamed (table_of g.known) x.meaning) (declarations_of g.known) inner kept.types.known.declarations
              (All-drop (λ (x : Declaration). IsNamed (table_of g.known) x.meaning) (length (declarations_of f.known)) (declarations_of head.known)
              (All-weaker (λ (x : Declaration). IsNamed (table_of head.known) x.meaning) (λ (x : Declaration). IsNamed (table_of g.known) x.meaning)
              (λ x n. meaning-longer (table_of head.known) (table_of g.known) longer x.meaning n) (declarations_of head.known) h.named.0.known.declarations));
          tags = kept.types.known.tags;
          members = kept.types.known.members;
        };
        variables = variables-longer (table_of head.known) (table_of g.known) longer head.variables h.named.1;
      }

      yields : Yields s laid_out (no_statements begun) reported
      yields = if_fine-at (Yields s laid_out (no_statements begun)) _ reported
          (body_typed-well s laid_out (where_in result body) body.items.items (no_statements begun) (sym returns, labels) begun-knows fit) is

      following : Knows s laid_out reported.inside
      following = yields.gives.knows begun-knows

      -- after the body the declarations are those around it
      same : declarations_of after.known ≡ declarations_of g.known
      same =
          start-take (declarations_of g.known) (declarations_of reported.inside.known)
          (starts-trans (declarations_of g.known) (declarations_of begun.known) (declarations_of reported.inside.known) (inner, refl) yields.gives.scope)

      has-inside : Has p after → HasInside s laid_out reported.inside
      has-inside has = record {
        table = has.table;
        texts = has.texts;
        variables = λ n v at. (v, at, refl);
        types = record {
          program = has.types;
          variables = variables-longer (table_of reported.inside.known) p.table has.table.longer reported.inside.variables following.variables;
          returns = names-longer (table_of g.known) p.table (omega (arith, yields.gives.longer, has.table.longer)) r.returns
              (found-at (HasNamedTypes (table_of g.known)) g.routines number r kept.types.routines found).returns;
        };
      }

      before : Has p after → Has p g
      before has =
          let start = yields.gives.before (has-inside has) in
          record {
            table = start.table;
            texts = start.texts;
            there = subst (All (λ (x : Declaration). IsThere (outside p) x.meaning)) same has.there;
            types = has.types;
          }

      is-routine : (x : Routine) → slice_get g.routines number ≡ Some x → x ≡ r
      is-routine x at = same_Some x r (sym at ∙ found)

      counted-at : IsCounted r
      counted-at = found-at IsCounted g.routines number r kept.counted found

      count : r.parameters ≡ length head.variables
      count = count-is r head.variables counted-at types

      enough : r.parameters ≤ length reported.inside.variables
      enough =
          let long : length reported.inside.variables ≡ length (head.variables ++ yields.gives.variables.0) = ap length yields.gives.variables.1 in
          let parts = length-append head.variables yields.gives.variables.0 in
          omega (arith, count, long, parts)

      counted-still : (x : Routine) → slice_get g.routines number ≡ Some x → IsCounted (change x)
      counted-still x at = subst (λ (y : Routine). IsCounted (change y)) (sym (is-routine x at)) enough

      same-types : parameter_types (change r) ≡ parameter_types r
      same-types =
          ap (λ n. types_of (take n reported.inside.variables)) count
          ∙ types-first head.variables reported.inside.variables yields.gives.variables
          ∙ sym types

      IsSame : Routine → Routine → Type 0
      IsSame y x = (y.returns ≡ x.returns) × (parameter_types y ≡ parameter_types x)

      routines-kept : (n : ℕ) (x : Routine) → slice_get g.routines n ≡ Some x → HasRoutine p after n x
      routines-kept n x at =
          let y = changed-found change IsSame number n g.routines x (λ z. (refl, refl))
          (λ z there. subst (λ (w : Routine). IsSame (change w) w) (sym (is-routine z there)) (refl, same-types)) at in
          (y.0, y.1, y.2.0, y.2.1)

      -- what is declared at the beginning of the body exists
      there-begun : Has p after → AreThere s laid_out begun
      there-begun has =
          let There : Declaration → Type 0 = λ x. IsThere s x.meaning in
          let Outside : Declaration → Type 0 = λ x. IsThere (outside p) x.meaning in
          let around = before has in
          let here = All-weaker Outside There (λ x there. there-inside s x.meaning there) (declarations_of g.known) around.there in
          let earlier = All-weaker Outside There (λ x there. there-inside s x.meaning there) (declarations_of f.known) (adds.before around).there in
          let are : AreVariables s head.variables = λ n v at. (v, found-start head.variables reported.inside.variables n v yields.gives.variables at, refl) in
          let leads = h.leads s refl are in
          record {
            declared = All-append There (declarations_of g.known) inner here
                (All-drop There (length (declarations_of f.known)) (declarations_of head.known) (leads.declarations earlier));
            whole = whole-scalars head.variables h.scalars;
          }

      well-at : Has p after → IsWellRoutine p r → IsWellRoutine p (change r)
      well-at has well = record {
        returns = well.returns;
        parameters = enough;
        passed = subst (All IsScalar) (sym same-types) well.passed;
        variables = (yields.gives.there (has-inside has) (there-begun has)).whole;
        written = well.written;
        named = record { returns = well.named.returns; variables = (has-inside has).types.variables };
        body = record {
          statement = yields.gives.well (has-inside has) (there-begun has) tt;
          labels = led.numbered 0 refl tt;
          jumps = led.jumps tt;
        };
      }

      well-still : Has p after → (x : Routine) → slice_get g.routines number ≡ Some x → IsWellRoutine p x → IsWellRoutine p (change x)
      well-still has x at well =
          let e = is-routine x at in
          subst (λ (y : Routine). IsWellRoutine p (change y)) (sym e) (well-at has (subst (IsWellRoutine p) e well))

  body_added-adds : (f : Filed) (d : RawFunction) (body : RawBody) (result : Shape) (head : Head) (callee : Callee) (g : Filed) → Adds p f g
      → length (table_of head.known) ≤ length (table_of g.known) → IsHead f head →
      IsRouted g result head.variables callee → ItemsHaveConstants body.items.items
      → IfFine (body_added d body result head.variables (declared_inside f.known head.known) callee g) (Adds p g)
  body_added-adds f d body result head Malloc g adds longer h routed fit = adds-self p g adds.kept
  body_added-adds f d body result head Calloc g adds longer h routed fit = adds-self p g adds.kept
  body_added-adds f d body result head Free g adds longer h routed fit = adds-self p g adds.kept
  body_added-adds f d body result head (Numbered number) g adds longer h routed fit =
      let v = body_typed (where_in result body) body.items.items (no_statements (at_beginning g head.variables (declared_inside f.known head.known))) in
      lift-then (λ reported. v ≡ Fine reported) (Adds p g) (with_body d body number g) v (itself v)
      (λ reported is. bodied-adds f g d body result head number routed.0 reported adds longer h routed.1 routed.2 routed.3 fit is)

  completed-adds : (f : Filed) (d : RawFunction) (body : Option RawBody) (result : Shape) (head : Head) (r : Routed) → Adds p f r.1
      → length (table_of head.known) ≤ length (table_of r.1.known) → IsHead f head →
      IsRouted r.1 result head.variables r.0 → BodyHasConstants body
      → IfFine (completed d body result head.variables (declared_inside f.known head.known) r) (Adds p f)
  completed-adds f d None result head r adds longer h routed fit = adds
  completed-adds f d (Some body) result head r adds longer h routed fit =
      if_fine-weaker (Adds p r.1) (Adds p f) (body_added d body result head.variables (declared_inside f.known head.known) r.0 r.1)
      (body_added-adds f d body result head r.0 r.1 adds longer h routed fit)
      (λ g k. adds-trans p f r.1 g adds k)

  -- ---- functions

  headed-adds : (f : Filed) (d : RawFunction) (body : Option RawBody) (result : Shape) (head : Head) → NamesStructs (table_of f.known) result → Kept p f
      → IsHead f head → IsPlaced f.order d.name →
      may_be_function f (is_some body) result (meaning_here d.name f.known) ≡ true → IsResult result → BodyHasConstants body
      → IfFine (headed d body f result head) (Adds p f)
  headed-adds f d body result head named kept h placed may fits fit =
      lift-then Added (Adds p f)
      (completed d body result head.variables (declared_inside f.known head.known)) _
      (lift-then Added Added (declared_once head.twice) _
      (function_of-adds (outside_of f head) d result head.variables head.written (meaning_here d.name (outside_of f head).known)
      (names-longer (table_of f.known) (table_of head.known) h.named.0.longer result named) h.named.1 adds.kept stands fits h.written h.scalars)
      (λ r k. once-then Added head.twice r k))
      (λ r k. completed-adds f d body result head r (adds-trans p f (outside_of f head) r.1 adds k.0) k.0.longer h k.1 fit)
    where
      Added : Routed → Type 0
      Added = AddsFunction (outside_of f head) result head.variables

      adds : Adds p f (outside_of f head)
      adds = outside-adds f head kept h

      same : declarations_of (outside_of f head).known ≡ declarations_of f.known
      same = same-outside f head h

      there : IfSome (meaning_here d.name f.known) (IsThere (outside (with_parts p f)))
      there =
          newest-All (IsThere (outside (with_parts p f))) d.name (drop f.known.outer (declarations_of f.known))
          (All-drop (λ (x : Declaration). IsThere (outside (with_parts p f)) x.meaning) f.known.outer (declarations_of f.known) kept.declared)

      new : meaning_here d.name f.known ≡ None → All (IsOther d.name) (declarations_of (outside_of f head).known) × IsOrdered f.order d.name
      new none =
          let both = new-name f d.name kept placed none in
          (subst (All (IsOther d.name)) (sym same) both.0, both.1)

      stands : MayStand (outside_of f head) d result (meaning_here d.name (outside_of f head).known)
      stands =
          subst (λ ds. MayStand (outside_of f head) d result (newest d.name (drop f.known.outer ds))) (sym same)
          (may-stand (outside_of f head) d result f (is_some body) (meaning_here d.name f.known) may there new)

  -- a declared function, with its body if it has one
  pub function_added-adds : (d : RawFunction) (body : Option RawBody) (f : Filed) (ty : Shape) → NamesStructs (table_of f.known) ty → Kept p f
      → IsPlaced f.order d.name → BodyHasConstants body → IfFine (function_added d body f ty) (Adds p f)
  function_added-adds d body f ty named kept placed fit =
      let result = starred d.pointers.items ty in
      cond-then (Adds p f) (may_be_function f (is_some body) result (meaning_here d.name f.known)) (resulted d body f result) (Fault DeclaredTwice d.place)
      (λ may.
      cond-then (Adds p f) (is_result result) (lift (headed d body f result) (parameters_typed (entered f.known) d.parameters))
      (Fault IncompleteType d.place)
      (λ fits. lift-then (IsHead f) (Adds p f) (headed d body f result) _ (head-is f d.parameters kept)
      (λ head h. headed-adds f d body result head (starred-named (table_of f.known) d.pointers.items ty named) kept h placed may (result-is result fits) fit))
      (λ _. tt))
      (λ _. tt)
