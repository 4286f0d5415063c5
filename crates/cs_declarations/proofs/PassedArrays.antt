-- An array as a parameter is the pointer that its array type is passed as: for parameters with a first bound.
use Rattle.std.proofs.Common.{◌≡◌, ℤ, Bool, true, false, List, Some, ap, ◌∙◌}
use Rattle.std.specs.Prelude.{unsigned_abs, if◌then◌else◌, ◌&&◌, is_some}
use Rattle.cs_types.specs.declared.data_model.DataModel.{DataModel}
use Rattle.cs_types.specs.declared.structs.StructType.{StructType}
use Rattle.cs_types.specs.Shape.{Shape, array}
use Rattle.cs_ast.specs.declared.place.Place.{Place}
use Rattle.cs_scopes.specs.declared.context.Context.{Context}
use Rattle.cs_scopes.specs.declared.refusal.TypeCode.{TypeCode}
use Rattle.cs_scopes.specs.Verdicts.{Verdict, Fine, Fault, lift}
use Rattle.cs_scopes.specs.Sizes.{bytes_in}
use Rattle.cs_scopes.specs.TypeNames.{array_of, is_array_size}
use Rattle.cs_scopes.proofs.Lifting.{lift-fine}
use Rattle.cs_declarations.specs.Parameters.{Passed, elements_passed, array_passed, plainly_passed}

if_fine : {A : Type 0} (b : Bool) (x y : A) (code : TypeCode) (at : Place) → (if b then Fine x else Fault code at) ≡ Fine y → x ≡ y
if_fine true x y code at e = cc
if_fine false x y code at e = cc

array_made : (model : DataModel) (table : List StructType) (at : Place) (n : ℤ) (element whole : Shape) → array_of model table at n element ≡ Fine whole
    → array element (unsigned_abs n) ≡ whole
unfolding array_of
array_made model table at n element whole e = if_fine (is_array_size n && is_some (bytes_in model table (array element (unsigned_abs n)))) _ _ _ at e

pub array_as_passed : (c : Context) (at : Place) (n : ℤ) (element whole : Shape) → array_of c.model c.table.list at n element ≡ Fine whole
    → array_passed c at (Some n) element ≡ plainly_passed at whole
array_as_passed c at n element whole e =
    let rule : Shape → Verdict Passed = λ whole. Fine (elements_passed element (Some (unsigned_abs n))) in
    ap (lift rule) e ∙ lift-fine rule whole ∙ ap (plainly_passed at) (array_made c.model c.table.list at n element whole e)
