-- A function whose result has a supported type: for the functions of files.
use Rattle.std.proofs.Common.{◌≡◌, Bool, true, Option, Some, None, refl, sym, ap, ◌∙◌}
use Rattle.std.specs.Prelude.{is_some, if◌then◌else◌}
use Rattle.std.specs.Option.{option_map}
use Rattle.cs_types.specs.Shape.{Shape}
use Rattle.cs_ast.specs.declared.raw.declaration.RawFunction.{RawFunction}
use Rattle.cs_ast.specs.declared.raw.external.RawBody.{RawBody}
use Rattle.cs_scopes.specs.declared.refusal.TypeCode.TheVariants.{DeclaredTwice}
use Rattle.cs_scopes.specs.TypeNames.{starred}
use Rattle.cs_scopes.specs.Verdicts.{Verdict, Fault}
use Rattle.cs_declarations.specs.Environment.{meaning_here}
use Rattle.cs_file_scope.specs.Objects.{Filed}
use Rattle.cs_file_scope.specs.Functions.{may_be_function}
use Rattle.cs_typing.specs.Functions.{function_typed, function_added, resulted}

-- a mapped option is there exactly if the option is
pub still_some : {A B : Type 0} (f : A → B) (o : Option A) → is_some o ≡ is_some (option_map f o)
still_some f None = refl
still_some f (Some x) = refl

pub result_taken : (d : RawFunction) (body : Option RawBody) (f : Filed) (base result : Shape) (with_body : Bool) → result ≡ starred d.pointers.items base
    → with_body ≡ is_some body → true ≡ may_be_function f with_body result (meaning_here d.name f.known)
    → function_added d body f base ≡ resulted d body f result
result_taken d body f base result with_body is with_is ok =
    ap (function_typed d body f) (sym is)
    ∙ ap (λ (b : Bool).
    let v : Verdict Filed = if may_be_function f b result (meaning_here d.name f.known) then resulted d body f result else Fault DeclaredTwice d.place in
    v) (sym with_is)
    ∙ ap (λ (b : Bool). let v : Verdict Filed = if b then resulted d body f result else Fault DeclaredTwice d.place in v) (sym ok)
