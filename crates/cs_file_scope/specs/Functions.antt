-- Functions without their bodies (C11 6.9.1).
use Rattle.std.specs.Prelude.{ℕ, nat_eq, Bool, true, false, not, ◌&&◌, if◌then◌else◌, List, [], ◌∷◌, length, map, slice_get}
use Rattle.std.specs.Prelude.{Option, Some, None, is_some}
use Rattle.std.specs.Option.{option_and_then}
use Rattle.std.specs.List.{position_or_len}
use Rattle.std.specs.Cmp.Lexicographic.{pointwise}
use Rattle.cs_types.specs.Shape.{Shape, array, struct, same_shape}
use Rattle.cs_ast.specs.declared.place.Place.{Place}
use Rattle.cs_ast.specs.declared.raw.declaration.RawFunction.{RawFunction}
use Rattle.cs_ast.specs.TypedProgram.{Variable, Routine}
use Rattle.cs_scopes.specs.declared.refusal.TypeCode.TheVariants.{DeclaredTwice}
use Rattle.cs_scopes.specs.declared.scope.Callee.{Callee}
use Rattle.cs_scopes.specs.declared.scope.Callee.TheVariants.{Numbered}
use Rattle.cs_scopes.specs.Verdicts.{Verdict, Fine, Fault}
use Rattle.cs_scopes.specs.Meanings.{Meaning, Function, Signature}
use Rattle.cs_declarations.specs.Environment.{declaring}
use Rattle.cs_file_scope.specs.Objects.{Filed, changed}

-- a result that a function may have (C11 6.9.1, paragraph 3)
abbrev pub is_result : Shape → Bool
is_result (array element count) = false
is_result (struct number) = false
is_result other = true

abbrev pub same_types : List Shape → List Shape → Bool
same_types [] [] = true
same_types (ty ∷ types) (other ∷ others) = same_shape ty other && same_types types others
same_types types others = false

abbrev pub types_of : List Variable → List Shape
types_of variables = map (λ (v : Variable). v.ty) variables

-- the function has a body already, or may not have one in a file, as it is the library's
abbrev pub has_body : Filed → Callee → Bool
has_body f (Numbered number) = is_some (option_and_then (λ (r : Routine). r.body) (slice_get f.routines number))
has_body f other = true

-- a name that isn't declared yet may become a function's; a function may be declared again with the same result, and gets at most one
-- body
abbrev pub may_be_function : Filed → Bool → Shape → Option Meaning → Bool
may_be_function f with_body result None = true
may_be_function f with_body result (Some (Function before)) = same_shape before.result result && not (with_body && has_body f before.callee)
may_be_function f with_body result (Some other) = false

-- a function at its first declaration, without a body so far
abbrev pub bodiless : RawFunction → Shape → List Variable → List Bool → Routine
bodiless d result parameters written = record {
  name = d.name;
  at = d.place;
  returns = result;
  parameters = length parameters;
  variables = parameters;
  body = None;
  closes = d.place;
  written = written;
}

abbrev pub numbered : ℕ → Shape → List Variable → Signature
numbered number result parameters = record { callee = Numbered number; result = result; parameters = types_of parameters }

-- the number of a function: its index in the order of the file's functions
abbrev pub number_in : List (List ℕ) → List ℕ → ℕ
number_in order name = position_or_len (pointwise nat_eq name) order

-- a declared function, and the file that has it
abbrev pub Routed : Type 0
Routed = Callee × Filed

abbrev pub new_function : Filed → RawFunction → Shape → List Variable → List Bool → Routed
new_function f d result parameters written = (
  Numbered (number_in f.order d.name),
  record {
    known = declaring d.name (Function (numbered (number_in f.order d.name) result parameters)) f.known;
    globals = f.globals;
    order = f.order;
    routines = changed (number_in f.order d.name) (λ blank. bodiless d result parameters written) f.routines;
  },
)

-- a function, after the scope of its parameters: a new one, or an earlier one again, whose parameters have the same types
abbrev pub function_of : Filed → RawFunction → Shape → List Variable → List Bool → Option Meaning → Verdict Routed
function_of f d result parameters written (Some (Function before)) =
    if same_types before.parameters (types_of parameters) then Fine (before.callee, f) else Fault DeclaredTwice d.place
function_of f d result parameters written other = Fine (new_function f d result parameters written)

-- a function none of whose parameters has a name that is declared twice (C11 6.7, paragraph 3): that name comes after the function's
-- own
abbrev pub declared_once : Option Place → Routed → Verdict Routed
declared_once None r = Fine r
declared_once (Some at) r = Fault DeclaredTwice at
