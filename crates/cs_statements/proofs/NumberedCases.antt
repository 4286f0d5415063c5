-- The cases of a `switch` have different numbers of its type: for the statements of the contract of `typed`.
use Rattle.std.proofs.Common.{Bool, ◌≡◌, ◌∙◌, ◌≢◌, ℕ, ℤ, suc, ◌<◌, true, false, List, [], ◌∷◌, length, get_or, refl, sym, ap}
use Rattle.std.proofs.Common.{subst}
use Rattle.std.specs.Prelude.{Option, Some, None}
use Rattle.std.proofs.lemmas.List.Folds.{list_any_at}
use Rattle.std.proofs.lemmas.Cmp.{int_eq_equiv}
use Rattle.cs_types.specs.declared.data_model.DataModel.{DataModel}
use Rattle.cs_types.specs.IntType.{InRange}
use Rattle.cs_types.proofs.Wrapping.{wrapped-InRange}
use Rattle.cs_types.specs.Shape.{Shape, void, integer, pointer, array, struct}
use Rattle.cs_ast.specs.declared.typed.statement.Case.{Case}
use Rattle.cs_ast.specs.TypedTree.{Statement, count_of}
use Rattle.cs_statements.specs.Statements.{in_a_row, is_void, is_case, same_value, wrapped_in}
use Rattle.cs_well_formed.specs.Statements.{IsNumberOf}

-- a list of statements has as many statements as its tree
pub count-length : (statements : List Statement) → count_of (in_a_row statements) ≡ length statements
count-length [] = refl
count-length (s ∷ ss) = ap suc (count-length ss)

-- a new case has another number than each case before it
same_value-itself : (value : Option ℤ) → same_value value value ≡ true
same_value-itself (Some n) = int_eq_equiv.refl n
same_value-itself None = refl

pub new-case : (value : Option ℤ) (cases : List Case) → is_case value cases ≡ false → (k : ℕ) (d : Case) → k < length cases
    → (get_or cases k d).value ≢ value
new-case value cases new k d within is =
    let named : Case → Bool = λ c. same_value c.value value in
    let same : named (get_or cases k d) ≡ true = ap (λ v. same_value v value) is ∙ same_value-itself value in
    let there : is_case value cases ≡ true = list_any_at named cases k d within same in
    absurd cc

pub wrapped_in-number : (model : DataModel) (ty : Shape) (n : ℤ) → IsNumberOf model ty (wrapped_in model ty n)
wrapped_in-number model ty n kind is = subst (λ t. InRange model kind (wrapped_in model t n)) (sym is) (wrapped-InRange model kind n)

pub void-is : (ty : Shape) → is_void ty ≡ true → ty ≡ void
void-is void h = refl
void-is (integer ty) h = absurd cc
void-is (pointer target) h = absurd cc
void-is (array element count) h = absurd cc
void-is (struct number) h = absurd cc
