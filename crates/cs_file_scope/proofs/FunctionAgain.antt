-- A function that is declared again: for the functions of files.
use Rattle.std.proofs.Common.{◌≡◌, Bool, List, Option, Some, sym, ap, ◌∙◌}
use Rattle.std.specs.Prelude.{if◌then◌else◌}
use Rattle.cs_types.specs.Shape.{Shape}
use Rattle.cs_ast.specs.declared.raw.declaration.RawFunction.{RawFunction}
use Rattle.cs_ast.specs.TypedProgram.{Variable}
use Rattle.cs_scopes.specs.declared.refusal.TypeCode.TheVariants.{DeclaredTwice}
use Rattle.cs_scopes.specs.Meanings.{Meaning, Function, Signature}
use Rattle.cs_scopes.specs.Verdicts.{Verdict, Fine, Fault}
use Rattle.cs_file_scope.specs.Objects.{Filed}
use Rattle.cs_file_scope.specs.Functions.{Routed, same_types, types_of, function_of}

pub declared_again : (f : Filed) (d : RawFunction) (result : Shape) (parameters : List Variable) (written : List Bool) (meaning : Option Meaning)
    (before : Signature) (same : Bool) → Some (Function before) ≡ meaning → same ≡ same_types before.parameters (types_of parameters)
    → function_of f d result parameters written meaning ≡ (if same then Fine (before.callee, f) else Fault DeclaredTwice d.place)
declared_again f d result parameters written meaning before same is types =
    ap (function_of f d result parameters written) (sym is)
    ∙ ap (λ (b : Bool). let v : Verdict Routed = if b then Fine (before.callee, f) else Fault DeclaredTwice d.place in v) (sym types)
