-- After typedefs and parameters the structs have layouts: for the contracts of `declare_typedefs` and `parameters_typed`.
use Rattle.std.proofs.Common.{◌≡◌, ℕ, List, [], ◌∷◌, length}
use Rattle.std.specs.Prelude.{Option, Some, None}
use Rattle.cs_types.specs.Shape.{Shape}
use Rattle.cs_ast.specs.declared.place.Place.{Place}
use Rattle.cs_ast.specs.declared.raw.name.RawName.{RawName}
use Rattle.cs_ast.specs.declared.raw.declaration.RawDeclarator.{RawDeclarator}
use Rattle.cs_ast.specs.declared.raw.declaration.RawParameter.{RawParameter}
use Rattle.cs_ast.specs.declared.raw.declaration.RawParameters.{RawParameters}
use Rattle.cs_ast.specs.declared.raw.declaration.RawParameters.TheVariants as parameter_lists
use Rattle.cs_scopes.specs.declared.refusal.TypeCode.TheVariants.{DeclaredTwice}
use Rattle.cs_scopes.specs.Verdicts.{Verdict, Fine, Fault, lift}
use Rattle.cs_scopes.specs.Meanings.{Typedef}
use Rattle.cs_scopes.specs.TypeNames.{starred}
use Rattle.cs_declarations.specs.Environment.{Environment, declaring, is_declared_here}
use Rattle.cs_declarations.specs.Bodies.{Typing, specs_type, declarator_type, typedef_added, typedefs_added}
use Rattle.cs_declarations.specs.Parameters.{Passed, Head, naming, with_parameter, parameter_passed, parameter_typed, parameters_after}
use Rattle.cs_declarations.specs.Parameters.{parameters_typed, no_parameter, after_twice, twice_after}
use Rattle.cs_declarations.specs.LaidOut.{IsSound}
use Rattle.cs_declarations.proofs.FineVerdicts.{IfFine, IfFine-lift, IfFine-lift_any, IfFine-cond, IfFine-at}
use Rattle.cs_declarations.proofs.SoundStructs.{GoesOn, GoesOn-same, GoesOn-trans}
use Rattle.cs_declarations.proofs.SoundBodies.{TypeGoesOn, specs_type-GoesOn}

-- ---- typedefs

typedef_added-GoesOn : (k between : Environment) (base : Shape) (d : RawDeclarator) → GoesOn k between → IfFine (typedef_added base d between) (GoesOn k)
typedef_added-GoesOn k between base d g =
    let rule : Shape → Verdict Environment = λ ty. Fine (declaring d.name (Typedef ty) between) in
    let typed = declarator_type between.context base None d in
    IfFine-cond (is_declared_here d.name between) (Fault DeclaredTwice d.place) (lift rule typed) (GoesOn k) (λ twice. tt)
    (λ new. IfFine-lift_any rule typed (GoesOn k) (λ ty. g))

typedefs-GoesOn : (k between : Environment) (base : Shape) (ds : List RawDeclarator) → GoesOn k between → IfFine (typedefs_added base ds between) (GoesOn k)
typedefs-GoesOn k between base [] g = g
typedefs-GoesOn k between base (d ∷ ds) g =
    IfFine-lift (typedefs_added base ds) (typedef_added base d between) (GoesOn k) (GoesOn k) (typedef_added-GoesOn k between base d g)
    (λ following h. typedefs-GoesOn k following base ds h)

pub typedefs_added-GoesOn : (k : Environment) (base : Shape) (ds : List RawDeclarator) → IsSound k → IfFine (typedefs_added base ds k) (GoesOn k)
typedefs_added-GoesOn k base ds sound = typedefs-GoesOn k k base ds (GoesOn-same k sound)

-- ---- parameters

-- what is known after parameters
abbrev pub HeadGoesOn : Environment → Head → Type 0
HeadGoesOn k h = GoesOn k h.known

naming-GoesOn : (k between : Environment) (name : Option RawName) (number : ℕ) (ty : Shape) → GoesOn k between → GoesOn k (naming name number ty between)
naming-GoesOn k between None number ty g = g
naming-GoesOn k between (Some name) number ty g = g

IfFine-after_twice : {A : Type 0} (twice : Option Place) (v : Verdict A) (P : A → Type 0) → IfFine v P → IfFine (after_twice twice v) P
IfFine-after_twice twice (Fine value) P h = h
IfFine-after_twice None (Fault code place) P h = tt
IfFine-after_twice (Some at) (Fault code place) P h = tt

module _ (k : Environment) (p : RawParameter) (before : Head) where
  with_parameter-GoesOn : (between : Environment) (found : Passed) → GoesOn k between → IfFine (with_parameter p before between found) (HeadGoesOn k)
  with_parameter-GoesOn between found g = naming-GoesOn k between p.name (length before.variables) found.ty g

  -- a parameter once the type of its specifiers is known
  abbrev at_type : Typing → Verdict Head
  at_type found =
      lift (with_parameter p before found.1)
      (after_twice (twice_after p before.twice found.1) (parameter_passed found.1.context p (starred p.pointers.items found.0)))

  at_type-GoesOn : (found : Typing) → GoesOn k found.1 → IfFine (at_type found) (HeadGoesOn k)
  at_type-GoesOn found g =
      let passed = after_twice (twice_after p before.twice found.1) (parameter_passed found.1.context p (starred p.pointers.items found.0)) in
      IfFine-lift_any (with_parameter p before found.1) passed (HeadGoesOn k) (λ way. with_parameter-GoesOn found.1 way g)

  parameter_typed-GoesOn : HeadGoesOn k before → IfFine (parameter_typed p before) (HeadGoesOn k)
  parameter_typed-GoesOn g =
      IfFine-lift at_type (after_twice before.twice (specs_type before.known p.place p.specs)) (TypeGoesOn before.known) (HeadGoesOn k)
      (IfFine-after_twice before.twice (specs_type before.known p.place p.specs) (TypeGoesOn before.known)
      (specs_type-GoesOn before.known p.place p.specs g.sound))
      (λ found h. at_type-GoesOn found (GoesOn-trans k before.known found.1 g h))

parameters_after-GoesOn : (k : Environment) (ps : List RawParameter) (before : Head) → HeadGoesOn k before
    → IfFine (parameters_after ps before) (HeadGoesOn k)
parameters_after-GoesOn k [] before g = g
parameters_after-GoesOn k (p ∷ ps) before g =
    IfFine-lift (parameters_after ps) (parameter_typed p before) (HeadGoesOn k) (HeadGoesOn k) (parameter_typed-GoesOn k p before g)
    (λ following h. parameters_after-GoesOn k ps following h)

pub parameters_typed-GoesOn : (k : Environment) (parameters : RawParameters) → IsSound k → IfFine (parameters_typed k parameters) (HeadGoesOn k)
parameters_typed-GoesOn k parameter_lists.Empty sound = GoesOn-same k sound
parameters_typed-GoesOn k parameter_lists.Void sound = GoesOn-same k sound
parameters_typed-GoesOn k (parameter_lists.List list) sound =
    parameters_after-GoesOn k list.items (no_parameter k) (GoesOn-same k sound)

-- ---- what is known after them, without a type error

pub typedefs_laid : (k after : Environment) (base : Shape) (ds : List RawDeclarator) → typedefs_added base ds k ≡ Fine after → IsSound k → IsSound after
typedefs_laid k after base ds reported sound = (IfFine-at (typedefs_added base ds k) (GoesOn k) after reported (typedefs_added-GoesOn k base ds sound)).sound

pub parameters_laid : (k : Environment) (parameters : RawParameters) (h : Head) → parameters_typed k parameters ≡ Fine h → IsSound k → IsSound h.known
parameters_laid k parameters h reported sound =
    (IfFine-at (parameters_typed k parameters) (HeadGoesOn k) h reported (parameters_typed-GoesOn k parameters sound)).sound
