-- File-scope objects (C11 6.7, 6.9.2).
use Rattle.std.specs.Prelude.{ℕ, Bool, true, false, not, ◌&&◌, ◌||◌, if◌then◌else◌, List, [], ◌∷◌, ◌++◌, length, slice_get, Option}
use Rattle.std.specs.Prelude.{Some, None, is_some}
use Rattle.std.specs.Option.{option_and_then}
use Rattle.cs_types.specs.Shape.{Shape, same_shape}
use Rattle.cs_ast.specs.declared.raw.declaration.RawSpecs.{RawSpecs}
use Rattle.cs_ast.specs.declared.raw.declaration.RawDeclarator.{RawDeclarator}
use Rattle.cs_ast.specs.declared.raw.declaration.RawFirstValue.{RawFirstValue}
use Rattle.cs_ast.specs.declared.raw.declaration.RawInit.{RawInit}
use Rattle.cs_ast.specs.TypedTree.{Initial}
use Rattle.cs_ast.specs.TypedProgram.{FileObject, Routine}
use Rattle.cs_scopes.specs.declared.refusal.TypeCode.TheVariants.{DeclaredTwice}
use Rattle.cs_scopes.specs.Verdicts.{Verdict, Fine, Fault, lift}
use Rattle.cs_scopes.specs.Meanings.{Meaning, Global}
use Rattle.cs_types.specs.Kinds.{is_complete}
use Rattle.cs_scopes.specs.TypeNames.{starred}
use Rattle.cs_declarations.specs.Environment.{Environment, with_literals, declaring, meaning_here}
use Rattle.cs_declarations.specs.Initializers.{InFile, Reading, initial_typed}
use Rattle.cs_declarations.specs.Objects.{object_type}
use Rattle.cs_scopes.specs.Constness.{is_constant_object}

-- a file up to some part; its functions are in the order of the whole file, and those that aren't declared yet are blank
pub record Filed : Type 0 where
  pub known : Environment
  pub globals : List FileObject
  pub order : List (List ℕ)
  pub routines : List Routine

-- the object has an initializer
abbrev pub is_initialized : ℕ → List FileObject → Bool
is_initialized number globals = is_some (option_and_then (λ (g : FileObject). g.initial) (slice_get globals number))

-- the type before a declarator's name is complete, so that the object's type may be (C11 6.7, paragraph 7)
abbrev pub is_completed : Filed → Shape → RawDeclarator → Bool
is_completed f base d = is_complete f.known.context.table.list (starred d.pointers.items base)

-- a name that isn't declared yet may become an object's; an object may be declared again, and is initialized once: not with an
-- incomplete type, which isn't the object's
abbrev pub may_be_object : List FileObject → Bool → Bool → Option Meaning → Bool
may_be_object globals completed initializes None = true
may_be_object globals completed initializes (Some (Global number ty)) = completed && not (initializes && is_initialized number globals)
may_be_object globals completed initializes (Some other) = false

-- the object of a name: a new one, or the one that was declared before with the same type
pub record Object : Type 0 where
  pub number : ℕ
  pub filed : Filed

abbrev pub with_known : Environment → Filed → Filed
with_known k f = record { known = k; globals = f.globals; order = f.order; routines = f.routines }

abbrev pub with_globals : List FileObject → Filed → Filed
with_globals globals f = record { known = f.known; globals = globals; order = f.order; routines = f.routines }

abbrev pub new_object : Filed → RawDeclarator → Shape → Object
new_object f d ty = record {
  number = length f.globals;
  filed = record {
    known = declaring d.name (Global (length f.globals) ty) f.known;
    globals = f.globals ++ record { name = d.name; at = d.place; ty = ty; constant = false; initial = None } ∷ [];
    order = f.order;
    routines = f.routines;
  };
}

abbrev pub object_of : Filed → RawDeclarator → Option Meaning → Shape → Verdict Object
object_of f d (Some (Global number before)) ty = if same_shape before ty then Fine (record { number = number; filed = f }) else Fault DeclaredTwice d.place
object_of f d other ty = Fine (new_object f d ty)

-- a list in which the element with this number, if there is one, is changed
abbrev pub changed : {A : Type 0} → ℕ → (A → A) → List A → List A
changed number change [] = []
changed ℕ.zero change (first ∷ others) = change first ∷ others
changed (ℕ.suc number) change (first ∷ others) = first ∷ changed number change others

-- an object after further declarations
abbrev pub made_constant : Bool → FileObject → FileObject
made_constant constant g = record { name = g.name; at = g.at; ty = g.ty; constant = g.constant || constant; initial = g.initial }

abbrev pub holding : Initial → FileObject → FileObject
holding first g = record { name = g.name; at = g.at; ty = g.ty; constant = g.constant; initial = Some first }

abbrev pub with_initial : ℕ → Filed → Reading → Verdict Filed
with_initial number f r =
    Fine (record { known = with_literals r.1 f.known; globals = changed number (holding r.0) f.globals; order = f.order; routines = f.routines })

-- after the initializer of an object, if there is one
abbrev pub object_initialized : Shape → Option RawFirstValue → Object → Verdict Filed
object_initialized ty None o = Fine o.filed
object_initialized ty (Some value) o =
    lift (with_initial o.number o.filed) (initial_typed o.filed.known.context o.filed.known.literals InFile value.place ty value.initial)

abbrev pub marked : RawSpecs → RawDeclarator → Object → Verdict Object
marked s d o =
    Fine (record { number = o.number; filed = with_globals (changed o.number (made_constant (is_constant_object s d.pointers.items)) o.filed.globals) o.filed })

-- after a declared object of a file
abbrev pub object_added : RawSpecs → Shape → RawInit → Filed → Verdict Filed
object_added s base d f =
    if may_be_object f.globals (is_completed f base d.declarator) (is_some d.initial) (meaning_here d.declarator.name f.known)
    then lift (λ ty.
    lift (object_initialized ty d.initial) (lift (marked s d.declarator) (object_of f d.declarator (meaning_here d.declarator.name f.known) ty)))
    (object_type f.known.context base d)
    else Fault DeclaredTwice d.declarator.place

abbrev pub objects_added : RawSpecs → Shape → List RawInit → Filed → Verdict Filed
objects_added s base [] f = Fine f
objects_added s base (d ∷ ds) f = lift (objects_added s base ds) (object_added s base d f)
