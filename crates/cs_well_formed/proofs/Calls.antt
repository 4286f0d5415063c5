-- Calls are well formed: the rules of calls.
use Rattle.std.proofs.Common.{◌≡◌, ℕ, Bool, true, false, cond, ◌&&◌, not, List, [], ◌∷◌, length, Option, Some, None, eqb, refl, sym, subst}
use Rattle.std.proofs.Common.{eqb-true}
use Rattle.std.specs.Prelude.{IfSome, take}
use Rattle.std.proofs.lemmas.List.Elements.{All-take}
use Rattle.cs_types.specs.declared.data_model.DataModel.{DataModel}
use Rattle.cs_types.specs.Shape.{Shape, void, integer, pointer, array, struct}
use Rattle.cs_ast.specs.declared.place.Place.{Place}
use Rattle.cs_ast.specs.declared.typed.operator.Allocator.{Allocator}
use Rattle.cs_ast.specs.declared.typed.operator.Allocator.TheVariants as allocator
use Rattle.cs_ast.specs.TypedTree.{Typed, TypedList, NoMore, Further}
use Rattle.cs_ast.specs.TypedProgram.{TypedProgram, Variable}
use Rattle.cs_scopes.specs.declared.context.Context.{Context}
use Rattle.cs_scopes.specs.declared.scope.Callee.{Callee}
use Rattle.cs_scopes.specs.declared.scope.Callee.TheVariants.{Malloc, Calloc, Free, Numbered}
use Rattle.cs_scopes.specs.Meanings.{Signature}
use Rattle.cs_scopes.specs.declared.refusal.TypeCode.{TypeCode}
use Rattle.cs_scopes.specs.declared.refusal.TypeCode.TheVariants.{ArgumentCount, NoTarget}
use Rattle.cs_scopes.specs.Verdicts.{Verdict, Fine, Fault}
use Rattle.cs_scopes.specs.Faults.{least_code}
use Rattle.cs_folding.specs.TypedParts.{type_of}
use Rattle.cs_expressions.specs.Calls.{parameters_of, allocates, is_pointer_target, call_fault, before_others, converted_list, allocated, freed, call_by}
use Rattle.cs_expressions.specs.Calls.{call_of}
use Rattle.cs_consts.specs.Typing.{call_with, call_or_not, no_function}
use Rattle.cs_well_formed.specs.Structs.{NamesStructs, HasNamedTypes, TypesAreNamed}
use Rattle.cs_well_formed.specs.Expressions.{Setting, IsWell, AreWell, IsValue, IsValueOf, AreValuesOf, sizes_of}
use Rattle.cs_well_formed.specs.Agreement.{IsFunction, IsAllocator}
use Rattle.cs_well_formed.proofs.Verdicts.{IfFine, if_fine-any, lift-then, unless_fault-then, first-none}
use Rattle.cs_well_formed.specs.Laws.{TargetNames}
use Rattle.cs_well_formed.proofs.Structs.{found-at, AreNamed, each-named}
use Rattle.cs_well_formed.proofs.Conversions.{converted-well}

-- one well-formed value for each type
abbrev pub AreGiven : Setting → List Shape → TypedList → Type 0
AreGiven s [] NoMore = Unit {0}
AreGiven s (ty ∷ types) (Further e others) = IsWell s e × IsValue e × AreGiven s types others
AreGiven s types values = ⊥

-- well-formed values of these types, one for each
abbrev AreTaken : Setting → List Shape → TypedList → Type 0
AreTaken s types values = AreWell s values × AreValuesOf values types

before-taken : (s : Setting) (at : Place) (ty : Shape) (types : List Shape) (v : Verdict Typed) (w : Verdict TypedList)
    → IfFine v (λ e. IsWell s e × IsValueOf e ty) → IfFine w (AreTaken s types) → IfFine (before_others at v w) (AreTaken s (ty ∷ types))
before-taken s at ty types (Fine e) (Fine others) h k = ((h.0, k.0), (h.1, k.1))
before-taken s at ty types (Fine e) (Fault code place) h k = tt
before-taken s at ty types (Fault code place) (Fine others) h k = tt
before-taken s at ty types (Fault code place) (Fault other there) h k = tt

-- each argument is converted to the type of its parameter
converted_list-taken : (s : Setting) (model : DataModel) (at : Place) (types : List Shape) (values : TypedList) → AreNamed s.program.table types
    → AreGiven s types values → IfFine (converted_list model at types values) (AreTaken s types)
converted_list-taken s model at [] NoMore names given = (tt, tt)
converted_list-taken s model at [] (Further e others) names given = absurd given
converted_list-taken s model at (ty ∷ types) NoMore names given = absurd given
converted_list-taken s model at (ty ∷ types) (Further e others) names given =
    before-taken s at ty types _ _ (converted-well s model at e ty (type_of e) names.0 given.0 (given.1, refl))
    (converted_list-taken s model at types others names.1 given.2)

module _ (s : Setting) (at : Place) (target : Option Shape) (names : TargetNames s target) where
  allocated-well : (a : Allocator) (arguments : TypedList) (to : Option Shape) → TargetNames s to → AreWell s arguments
      → AreValuesOf arguments (sizes_of s.program.model a) → IfFine (allocated at a arguments to) (IsWell s)
  allocated-well a arguments (Some (pointer ty)) to_names well sizes = (well, sizes, ty, refl, refl, to_names)
  allocated-well a arguments (Some void) to_names well sizes = tt
  allocated-well a arguments (Some (integer ty)) to_names well sizes = tt
  allocated-well a arguments (Some (array element count)) to_names well sizes = tt
  allocated-well a arguments (Some (struct number)) to_names well sizes = tt
  allocated-well a arguments None to_names well sizes = tt

  freed-well : (arguments : TypedList) → AreWell s arguments → AreValuesOf arguments (pointer void ∷ []) → IfFine (freed at arguments) (IsWell s)
  freed-well NoMore well v = tt
  freed-well (Further e NoMore) well v = (well.0, refl, v.0)
  freed-well (Further e (Further e' others)) well v = tt

  allocation-well : (a : Allocator) (f : Signature) (arguments : TypedList) → IsAllocator s.program a f → AreTaken s f.parameters arguments
      → IfFine (allocated at a arguments target) (IsWell s)
  allocation-well a f arguments is taken = allocated-well a arguments target names taken.0 (subst (AreValuesOf arguments) is.1 taken.1)

  call_by-well : (callee : Callee) (f : Signature) (arguments : TypedList) → IsFunction s.program callee f → AreTaken s f.parameters arguments
      → IfFine (call_by at target callee f.result arguments) (IsWell s)
  call_by-well (Numbered number) f arguments is taken = (taken.0, (is.0, is.1, is.2, subst (AreValuesOf arguments) (sym is.3) taken.1))
  call_by-well Malloc f arguments is taken = allocation-well allocator.Malloc f arguments is taken
  call_by-well Calloc f arguments is taken = allocation-well allocator.Calloc f arguments is taken
  call_by-well Free f arguments is taken = freed-well arguments taken.0 (subst (AreValuesOf arguments) is.1 taken.1)

  call_of-well : (f : Signature) (arguments : TypedList) → IsFunction s.program f.callee f → AreTaken s f.parameters arguments
      → IfFine (call_of at target f arguments) (IsWell s)
  unfolding call_of
  call_of-well f arguments is taken = call_by-well f.callee f arguments is taken

-- the types of parameters name structs
parameters-named : (p : TypedProgram) → TypesAreNamed p → (callee : Callee) (f : Signature) → IsFunction p callee f → AreNamed p.table f.parameters
parameters-named p types Malloc f is = subst (AreNamed p.table) (sym is.1) (tt, tt)
parameters-named p types Calloc f is = subst (AreNamed p.table) (sym is.1) (tt, (tt, tt))
parameters-named p types Free f is = subst (AreNamed p.table) (sym is.1) (tt, tt)
parameters-named p types (Numbered number) f is =
    let r = found-at (HasNamedTypes p.table) p.routines number is.0 types.routines is.1 in
    subst (AreNamed p.table) is.3
    (each-named p.table (λ (v : Variable). v.ty) (take is.0.parameters is.0.variables)
    (All-take (λ (v : Variable). NamesStructs p.table v.ty) is.0.parameters is.0.variables r.variables))

pub parameters_of-named : (p : TypedProgram) → TypesAreNamed p → (function : Option Signature) → IfSome function (λ f. IsFunction p f.callee f)
    → AreNamed p.table (parameters_of function)
parameters_of-named p types None is = tt
parameters_of-named p types (Some f) is = parameters-named p types f.callee f is

-- a call without a type error has an argument for each parameter
call-counts : (target : Option Shape) (count : ℕ) (f : Signature) → call_fault target count f ≡ None → length f.parameters ≡ count
unfolding call_fault
call-counts target count f none = by_test (eqb (length f.parameters) count) refl none
  where
    by_test : (test : Bool) → eqb (length f.parameters) count ≡ test
        → cond test (cond (allocates f.callee && not (is_pointer_target target)) (Some NoTarget) None) (Some ArgumentCount) ≡ None
        → length f.parameters ≡ count
    by_test true h e = eqb-true (length f.parameters) count h
    by_test false h e = absurd cc

-- a call of a function with its arguments is well formed
pub call-well : (s : Setting) (c : Context) (at : Place) (target : Option Shape) (function : Option Signature) (count : ℕ) (v : Verdict Typed)
    (fault : Option TypeCode) (values : Verdict TypedList) → TargetNames s target → TypesAreNamed s.program →
    IfSome function (λ f. IsFunction s.program f.callee f)
    → IfFine values (λ vs. length (parameters_of function) ≡ count → AreGiven s (parameters_of function) vs)
    → IfFine (call_or_not c at target function count v fault values) (IsWell s)
unfolding call_or_not call_with
call-well s c at target None count v fault values names types there given =
    lift-then (λ _. Unit {0}) (IsWell s) (no_function at) v (if_fine-any v) (λ _ _. tt)
call-well s c at target (Some f) count v fault values names types there given =
    unless_fault-then (IsWell s) at (least_code (call_fault target count f) fault) _
    (λ none.
    lift-then (λ vs. length f.parameters ≡ count → AreGiven s f.parameters vs) (IsWell s) (call_with c at target f) values given
    (λ vs are.
    lift-then (AreTaken s f.parameters) (IsWell s) (call_of at target f) _
    (converted_list-taken s c.model at f.parameters vs (parameters-named s.program types f.callee f there)
    (are (call-counts target count f (first-none (call_fault target count f) fault none))))
    (λ ws taken. call_of-well s at target names f ws there taken)))
