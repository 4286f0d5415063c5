-- The objects of files are well formed: for the contract of `typed`.
use Rattle.std.proofs.Common.{◌≡◌, ◌∙◌, ℕ, false, List, [], ◌∷◌, ◌++◌, length, drop, refl, sym, ap, subst, arith}
use Rattle.std.specs.Prelude.{Option, Some, None, IfSome, is_some, slice_get}
use Rattle.std.specs.List.{All}
use Rattle.std.proofs.lemmas.List.Elements.{All-push, All-drop}
use Rattle.std.proofs.lemmas.Option.{same_Some}
use Rattle.cs_types.specs.Layout.{IsLaidOut}
use Rattle.cs_types.specs.Shape.{Shape, same_shape}
use Rattle.cs_types.specs.ShapeEquality.{same_shape-true}
use Rattle.cs_ast.specs.declared.raw.declaration.RawSpecs.{RawSpecs}
use Rattle.cs_ast.specs.declared.raw.declaration.RawDeclarator.{RawDeclarator}
use Rattle.cs_ast.specs.declared.raw.declaration.RawFirstValue.{RawFirstValue}
use Rattle.cs_ast.specs.declared.raw.declaration.RawInit.{RawInit}
use Rattle.cs_ast.specs.TypedProgram.{TypedProgram, FileObject, Routine}
use Rattle.cs_scopes.specs.declared.refusal.TypeCode.TheVariants.{DeclaredTwice}
use Rattle.cs_scopes.specs.Meanings.{Meaning, Typedef, Constant, Global, Local, Function, Declaration}
use Rattle.cs_scopes.specs.Verdicts.{Fault}
use Rattle.cs_declarations.specs.Initializers.{InFile, Reading, initial_typed}
use Rattle.cs_declarations.specs.Environment.{table_of, declarations_of, with_literals, meaning_here}
use Rattle.cs_declarations.specs.Objects.{object_type}
use Rattle.cs_scopes.specs.Constness.{is_constant_object}
use Rattle.cs_file_scope.specs.Objects.{Filed, Object, with_globals, is_completed, may_be_object, new_object, object_of, changed, made_constant, holding}
use Rattle.cs_file_scope.specs.Objects.{with_initial, object_initialized, marked, object_added, objects_added}
use Rattle.cs_file_scope.specs.Beginning.{allocators}
use Rattle.cs_well_formed.specs.Structs.{NamesStructs}
use Rattle.cs_well_formed.specs.Expressions.{IsWhole}
use Rattle.cs_well_formed.specs.Initials.{IsWellInitial, HasConstantValues}
use Rattle.cs_well_formed.specs.Programs.{outside, IsWellGlobal}
use Rattle.cs_well_formed.specs.Agreement.{IsThere, Agrees, AreFirst}
use Rattle.cs_well_formed.proofs.Verdicts.{IfFine, if_fine-weaker, lift-then, cond-then}
use Rattle.cs_well_formed.proofs.Names.{first-part}
use Rattle.cs_well_formed.proofs.Initials.{initial-well, initial-constant}
use Rattle.cs_well_formed.proofs.Leading.{object_type-whole}
use Rattle.cs_well_formed.proofs.NamedTypes.{object_type-named, declaring-known}
use Rattle.cs_well_formed.proofs.Structs.{names-longer}
use Rattle.cs_statements.proofs.DeclarationsAfter.{starts-trans}
use Rattle.cs_statements.proofs.HeldConstants.{FirstValueHasConstants, ObjectsHaveConstants}
use Rattle.cs_statements.proofs.LiteralsAfter.{GoesOnFrom, initial_typed-begins}
use Rattle.cs_statements.proofs.WellStatements.{under, both-fine}
use Rattle.cs_typing.proofs.FilesSoFar.{start-All, found-start, changed-found, changed-All, newest-All, HasNumber, with_parts, Kept, Has, Adds, adds-self}
use Rattle.cs_typing.proofs.FilesSoFar.{adds-trans, file-agrees, HasGlobal, HasRoutine, all-there-kept}

last-found : {A : Type 0} (xs : List A) (x : A) → slice_get (xs ++ x ∷ []) (length xs) ≡ Some x
last-found [] x = refl
last-found (y ∷ xs) x = last-found xs x

module _ (p : TypedProgram) (laid_out : IsLaidOut p.model p.table) where
  -- the declaration of an object adds it, with its type
  abbrev AddsObject : Filed → Shape → Object → Type 0
  AddsObject f ty o = Adds p f o.filed × HasGlobal p o.filed o.number ty

  same-routines : (f : Filed) (number : ℕ) (r : Routine) → slice_get f.routines number ≡ Some r → HasRoutine p f number r
  same-routines f number r is = (r, is, refl, refl)

  -- a file with other objects of the same types
  globals-adds : (f : Filed) (globals : List FileObject) → Kept p f
      → ((number : ℕ) (x : FileObject) → slice_get f.globals number ≡ Some x → HasGlobal p (with_globals globals f) number x.ty) →
      All (λ (g : FileObject). NamesStructs (table_of f.known) g.ty) globals → (Has p f → All (IsWellGlobal p) f.globals → All (IsWellGlobal p) globals)
      → Adds p f (with_globals globals f)
  globals-adds f globals kept same named still = record {
    order = refl;
    kept = record {
      model = kept.model;
      outer = kept.outer;
      library = kept.library;
      order = kept.order;
      declared = all-there-kept p f (with_globals globals f) same (same-routines f) (declarations_of f.known) kept.declared;
      numbered = kept.numbered;
      counted = kept.counted;
      types = record { known = kept.types.known; globals = named; routines = kept.types.routines };
    };
    longer = omega arith;
    before = before;
    well = λ has w. record { globals = still (before has) w.globals; routines = w.routines };
  }
    where
      before : Has p (with_globals globals f) → Has p f
      before has = record { table = has.table; texts = has.texts; there = has.there; types = has.types }

  -- a new object
  new_object-adds : (f : Filed) (d : RawDeclarator) (ty : Shape) → NamesStructs (table_of f.known) ty → Kept p f → (Has p f → IsWhole p ty)
      → AddsObject f ty (new_object f d ty)
  new_object-adds f d ty named kept whole = (added, new)
    where
      after : Filed
      after = (new_object f d ty).filed

      object : FileObject
      object = record { name = d.name; at = d.place; ty = ty; constant = false; initial = None }

      declaration : Declaration
      declaration = record { name = d.name; meaning = Global (length f.globals) ty }

      new : HasGlobal p after (length f.globals) ty
      new = (object, last-found f.globals object, refl)

      before : Has p after → Has p f
      before has = record {
        table = has.table;
        texts = has.texts;
        there = start-All (λ (x : Declaration). IsThere (outside p) x.meaning) (declarations_of f.known) (declarations_of after.known)
            (declaration ∷ [], refl) has.there;
        types = has.types;
      }

      added : Adds p f after
      added = record {
        order = refl;
        kept = record {
          model = kept.model;
          outer = kept.outer;
          library = starts-trans (allocators p.model) (declarations_of f.known) (declarations_of after.known) kept.library (declaration ∷ [], refl);
          order = kept.order;
          declared = All-push (λ (x : Declaration). IsThere (outside (with_parts p after)) x.meaning) (declarations_of f.known) declaration
              (all-there-kept p f after (λ number x is. (x, found-start f.globals after.globals number x (object ∷ [], refl) is, refl)) (same-routines f)
              (declarations_of f.known) kept.declared)
              new;
          numbered = All-push (λ (x : Declaration). HasNumber f.order x.name x.meaning) (declarations_of f.known) declaration kept.numbered tt;
          counted = kept.counted;
          types = record {
            known = declaring-known d.name (Global (length f.globals) ty) f.known tt kept.types.known;
            globals = All-push (λ (g : FileObject). NamesStructs (table_of f.known) g.ty) f.globals object kept.types.globals named;
            routines = kept.types.routines;
          };
        };
        longer = omega arith;
        before = before;
        well =
            λ has w.
            record {
              globals = All-push (IsWellGlobal p) f.globals object w.globals (
                whole (before has),
                tt,
                names-longer (table_of f.known) p.table has.table.longer ty named,
              );
              routines = w.routines;
            };
      }

  object_of-adds : (f : Filed) (d : RawDeclarator) (before : Option Meaning) (ty : Shape) → NamesStructs (table_of f.known) ty → Kept p f
      → IfSome before (IsThere (outside (with_parts p f))) → (Has p f → IsWhole p ty) →
      IfFine (object_of f d before ty) (AddsObject f ty)
  object_of-adds f d (Some (Global number ty')) ty named kept there whole =
      cond-then (AddsObject f ty) (same_shape ty' ty) _ (Fault DeclaredTwice d.place)
      (λ same. (adds-self p f kept, (there.0, there.1, there.2 ∙ same_shape-true ty' ty same))) (λ _. tt)
  object_of-adds f d None ty named kept there whole = new_object-adds f d ty named kept whole
  object_of-adds f d (Some (Typedef t)) ty named kept there whole = new_object-adds f d ty named kept whole
  object_of-adds f d (Some (Constant value)) ty named kept there whole = new_object-adds f d ty named kept whole
  object_of-adds f d (Some (Local number t)) ty named kept there whole = new_object-adds f d ty named kept whole
  object_of-adds f d (Some (Function g)) ty named kept there whole = new_object-adds f d ty named kept whole

  -- one object of a file keeps its type
  abbrev SameType : FileObject → FileObject → Type 0
  SameType y x = y.ty ≡ x.ty

  changed-globals : (f : Filed) (change : FileObject → FileObject) (number : ℕ) → ((x : FileObject) → SameType (change x) x)
      → (other : ℕ) (x : FileObject) → slice_get f.globals other ≡ Some x → HasGlobal p (with_globals (changed number change f.globals) f) other x.ty
  changed-globals f change number same other x is = changed-found change SameType number other f.globals x (λ y. refl) (λ y _. same y) is

  marked-adds : (s : RawSpecs) (d : RawDeclarator) (ty : Shape) (o : Object) → Kept p o.filed → HasGlobal p o.filed o.number ty
      → IfFine (marked s d o) (AddsObject o.filed ty)
  marked-adds s d ty o kept has =
      let change = made_constant (is_constant_object s d.pointers.items) in
      let same = changed-globals o.filed change o.number (λ x. refl) in
      let there = same o.number has.0 has.1 in (
        globals-adds o.filed (changed o.number change o.filed.globals) kept same
            (changed-All change (λ (g : FileObject). NamesStructs (table_of o.filed.known) g.ty) o.number o.filed.globals (λ x _ n. n) kept.types.globals)
            (λ _ all. changed-All change (IsWellGlobal p) o.number o.filed.globals (λ x _ w. w) all),
        (there.0, there.1, there.2 ∙ has.2),
      )

  -- the result for an initializer, if the program has what is known before it
  record IsReading (f : Filed) (ty : Shape) (r : Reading) : Type 0 where
    well : Agrees (outside p) f.known.context × IsWhole p ty × NamesStructs p.table ty → AreFirst p r.1 → IsWellInitial (outside p) ty r.0
    begins : GoesOnFrom f.known.literals r
    constant : HasConstantValues f.known.context.model r.0

  reading : (f : Filed) (ty : Shape) (value : RawFirstValue) → FirstValueHasConstants (Some value)
      → IfFine (initial_typed f.known.context f.known.literals InFile value.place ty value.initial) (IsReading f ty)
  reading f ty value fit =
      let c = f.known.context in
      let v = initial_typed c f.known.literals InFile value.place ty value.initial in
      let Well : Reading → Type 0 = λ r. Agrees (outside p) c × IsWhole p ty × NamesStructs p.table ty → AreFirst p r.1
      → IsWellInitial (outside p) ty r.0 in
      let IsConstant : Reading → Type 0 = λ r. HasConstantValues c.model r.0 in
      if_fine-weaker (λ r. Well r × (GoesOnFrom f.known.literals r × IsConstant r)) (IsReading f ty) v
      (both-fine Well (λ r. GoesOnFrom f.known.literals r × IsConstant r) v
      (under (Agrees (outside p) c × IsWhole p ty × NamesStructs p.table ty) (λ (r : Reading). AreFirst p r.1 → IsWellInitial (outside p) ty r.0) v
      (λ h. initial-well (outside p) c h.0 laid_out InFile value.place f.known.literals ty value.initial h.1 h.2 fit))
      (both-fine (GoesOnFrom f.known.literals) IsConstant v (initial_typed-begins c f.known.literals InFile value.place ty value.initial)
      (initial-constant c value.place f.known.literals ty value.initial)))
      (λ r h. record { well = h.0; begins = h.1.0; constant = h.1.1 })

  -- an object with its initial value
  with_initial-adds : (f : Filed) (number : ℕ) (ty : Shape) (r : Reading) → Kept p f → HasGlobal p f number ty → IsReading f ty r
      → IfFine (with_initial number f r) (Adds p f)
  with_initial-adds f number ty r kept object h = record {
    order = refl;
    kept = record {
      model = kept.model;
      outer = kept.outer;
      library = kept.library;
      order = kept.order;
      declared = all-there-kept p f after (changed-globals f (holding r.0) number (λ x. refl)) (same-routines f) (declarations_of f.known) kept.declared;
      numbered = kept.numbered;
      counted = kept.counted;
      types = record {
        known = record { declarations = kept.types.known.declarations; tags = kept.types.known.tags; members = kept.types.known.members };
        globals = changed-All (holding r.0) (λ (g : FileObject). NamesStructs (table_of f.known) g.ty) number f.globals (λ x _ n. n) kept.types.globals;
        routines = kept.types.routines;
      };
    };
    longer = omega arith;
    before = before;
    well =
        λ has w. record {
          globals = changed-All (holding r.0) (IsWellGlobal p) number f.globals (λ x is well. held has x is well) w.globals;
          routines = w.routines;
        };
  }
    where
      after : Filed
      after = record { known = with_literals r.1 f.known; globals = changed number (holding r.0) f.globals; order = f.order; routines = f.routines }

      before : Has p after → Has p f
      before has = record { table = has.table; texts = first-part p f.known.literals r.1 h.begins has.texts; there = has.there; types = has.types }

      held : Has p after → (x : FileObject) → slice_get f.globals number ≡ Some x → IsWellGlobal p x → IsWellGlobal p (holding r.0 x)
      held has x is well =
          let same : x ≡ object.0 = same_Some x object.0 (sym is ∙ object.1) in
          let type_is : x.ty ≡ ty = ap (λ (g : FileObject). g.ty) same ∙ object.2 in
          let first = h.well (file-agrees p f kept (before has), subst (IsWhole p) type_is well.0, subst (NamesStructs p.table) type_is well.2) has.texts in (
            well.0,
            (subst (λ t. IsWellInitial (outside p) t r.0) (sym type_is) first, subst (λ m. HasConstantValues m r.0) kept.model h.constant),
            well.2,
          )

  object_initialized-adds : (ty : Shape) (first : Option RawFirstValue) (o : Object) → Kept p o.filed → HasGlobal p o.filed o.number ty
      → FirstValueHasConstants first → IfFine (object_initialized ty first o) (Adds p o.filed)
  object_initialized-adds ty None o kept object fit = adds-self p o.filed kept
  object_initialized-adds ty (Some value) o kept object fit =
      lift-then (IsReading o.filed ty) (Adds p o.filed) (with_initial o.number o.filed) _ (reading o.filed ty value fit)
      (λ r h. with_initial-adds o.filed o.number ty r kept object h)

  -- a declared object
  object_added-adds : (s : RawSpecs) (base : Shape) (d : RawInit) (f : Filed) → NamesStructs (table_of f.known) base → Kept p f
      → FirstValueHasConstants d.initial → IfFine (object_added s base d f) (Adds p f)
  object_added-adds s base d f named kept fit =
      let before = meaning_here d.declarator.name f.known in
      let there : IfSome before (IsThere (outside (with_parts p f))) =
      newest-All (IsThere (outside (with_parts p f))) d.declarator.name (drop f.known.outer (declarations_of f.known))
      (All-drop (λ (x : Declaration). IsThere (outside (with_parts p f)) x.meaning) f.known.outer (declarations_of f.known) kept.declared) in
      cond-then (Adds p f) (may_be_object f.globals (is_completed f base d.declarator) (is_some d.initial) before) _ (Fault DeclaredTwice d.declarator.place)
      (λ _. lift-then (λ ty. (Has p f → IsWhole p ty) × NamesStructs (table_of f.known) ty) (Adds p f) _ (object_type f.known.context base d)
      (both-fine (λ ty. Has p f → IsWhole p ty) (NamesStructs (table_of f.known)) (object_type f.known.context base d)
      (under (Has p f) (IsWhole p) (object_type f.known.context base d)
      (λ has. object_type-whole (outside p) f.known.context (file-agrees p f kept has) base d))
      (object_type-named f.known.context base d named))
      (λ ty whole.
      lift-then (AddsObject f ty) (Adds p f) (object_initialized ty d.initial) _
      (lift-then (AddsObject f ty) (AddsObject f ty) (marked s d.declarator) _ (object_of-adds f d.declarator before ty whole.1 kept there whole.0)
      (λ o h.
      if_fine-weaker (AddsObject o.filed ty) (AddsObject f ty) (marked s d.declarator o) (marked-adds s d.declarator ty o h.0.kept h.1)
      (λ o' k. (adds-trans p f o.filed o'.filed h.0 k.0, k.1))))
      (λ o h.
      if_fine-weaker (Adds p o.filed) (Adds p f) (object_initialized ty d.initial o) (object_initialized-adds ty d.initial o h.0.kept h.1 fit)
      (λ g k. adds-trans p f o.filed g h.0 k))))
      (λ _. tt)

  pub objects_added-adds : (s : RawSpecs) (base : Shape) (ds : List RawInit) (f : Filed) → NamesStructs (table_of f.known) base → Kept p f
      → ObjectsHaveConstants ds → IfFine (objects_added s base ds f) (Adds p f)
  objects_added-adds s base [] f named kept fit = adds-self p f kept
  objects_added-adds s base (d ∷ ds) f named kept fit =
      lift-then (Adds p f) (Adds p f) (objects_added s base ds) _ (object_added-adds s base d f named kept fit.0)
      (λ g h.
      if_fine-weaker (Adds p g) (Adds p f) (objects_added s base ds g)
      (objects_added-adds s base ds g (names-longer (table_of f.known) (table_of g.known) h.longer base named) h.kept fit.1)
      (λ k i. adds-trans p f g k h i))
