-- A number that may be guessed is used, and what an operation shows: for the contracts of `ask` and `find`.
use Rattle.std.proofs.Common.{◌≡◌, ℤ, ◌≤ℤ◌, Bool, true, Option, None, Some, if◌then◌else◌, refl, ap, arith}
use Rattle.std.proofs.lemmas.Int.{ints}
use Rattle.cs_types.specs.declared.data_model.DataModel.{DataModel}
use Rattle.cs_types.specs.declared.int_type.IntType.{IntType}
use Rattle.cs_types.specs.IntType.{InRange}
use Rattle.cs_ast.specs.declared.typed.operator.BinOp.{BinOp}
use Rattle.cs_ast.specs.declared.typed.operator.BinOp.TheVariants.{Add, Sub, Mul, Div, Rem, Shl, Shr, And, Xor, Or}
use Rattle.cs_terms.specs.declared.term.Lin.{Lin}
use Rattle.cs_terms.specs.Term.{Valuation}
use Rattle.cs_constraints.specs.Constraints.{Sets}
use Rattle.cs_events.specs.declared.event.Label.TheVariants as label
use Rattle.cs_events.specs.declared.operation.Operation.{Operation}
use Rattle.cs_events.specs.declared.operation.Operation.TheVariants as operation
use Rattle.cs_events.specs.InputCells.{lies_in}
use Rattle.cs_events.specs.Operations.{guess_range, shows}
use Rattle.cs_events.specs.Runs.{used}
use Rattle.cs_eval.specs.declared.question.Question.{Question}
use Rattle.cs_eval.specs.declared.question.Question.TheVariants as question
use Rattle.cs_eval.specs.Followed.{IsBinaryGuess, IsGuess}
use Rattle.cs_eval.specs.Questions.{operation_of}
use Rattle.cs_explored.specs.Answering.{leads_on}
use Rattle.cs_pieces.proofs.IntegerActs.{IsNoAllocation}

-- without a guess none is used
pub used_none : (range : Option (ℤ × ℤ)) → used range None ≡ None
used_none None = refl
used_none (Some range) = refl

-- a guess in the range is used
used_within : (range : ℤ × ℤ) (number : ℤ) → range.0 ≤ℤ number → number ≤ℤ range.1 → used (Some range) (Some number) ≡ Some number
used_within range number from to = ap (λ (b : Bool). if b then Some number else None) within
  where
    within : lies_in range number ≡ true
    within = grind (arith, ints)

-- a number that may be guessed for an operator is in its type
in_type : (model : DataModel) (sets : Sets) (op : BinOp) (ty : IntType) (left right : Lin) (v : Valuation) (number : ℤ)
    → IsBinaryGuess model sets op ty left right v number → InRange model ty number
in_type model sets Add ty left right v number may = may
in_type model sets Sub ty left right v number may = may
in_type model sets Mul ty left right v number may = may
in_type model sets Div ty left right v number may = may
in_type model sets Rem ty left right v number may = may.0
in_type model sets Shl ty left right v number may = may
in_type model sets Shr ty left right v number may = may
in_type model sets And ty left right v number may = may.0
in_type model sets Xor ty left right v number may = may
in_type model sets Or ty left right v number may = may

-- a number that may be guessed is used
pub guess_is_used : (model : DataModel) (sets : Sets) (asked : Question) (v : Valuation) (number : ℤ) → IsGuess model sets asked v number
    → used (guess_range model (operation_of v asked)) (Some number) ≡ Some number
guess_is_used model sets (question.Binary op ty left right) v number may =
    let within = in_type model sets op ty left right v number may in
    used_within _ number within.from_least within.to_greatest
guess_is_used model sets (question.Convert ty term) v number may = used_within _ number may.from_least may.to_greatest
guess_is_used model sets (question.Compare op left right) v number may = used_within _ number may.0 may.1
guess_is_used model sets (question.Order first second) v number may = used_within _ number may.0 may.1
guess_is_used model sets (question.Product count size) v number may = used_within _ number may.0 may.1
guess_is_used model sets (question.Sum offset amount size) v number may = used_within _ number may.0 may.1
guess_is_used model sets (question.Difference left right size) v number may = used_within _ number may.from_least may.to_greatest
guess_is_used model sets (question.Unary op ty term) v number may = absurd may
guess_is_used model sets (question.Test tested term) v number may = absurd may
guess_is_used model sets (question.Callee function) v number may = absurd may

-- an operation that isn't an allocation continues with its own answer
pub own_leads_on : (model : DataModel) (one : Operation) (guess : Option ℤ) (answer : Lin) → IsNoAllocation one
    → leads_on (shows model one guess) answer ≡ answer
own_leads_on model (operation.Binary op ty left right) guess answer none = refl
own_leads_on model (operation.Unary op ty operand) guess answer none = refl
own_leads_on model (operation.Convert ty number) guess answer none = refl
own_leads_on model (operation.Compare op left right) guess answer none = refl
own_leads_on model (operation.Order first second) guess answer none = refl
own_leads_on model (operation.Product count size) guess answer none = refl
own_leads_on model (operation.Sum offset amount size) guess answer none = refl
own_leads_on model (operation.Difference left right size) guess answer none = refl
own_leads_on model (operation.Show (label.Truth holds)) guess answer none = refl
own_leads_on model (operation.Show (label.Branch holds)) guess answer none = refl
own_leads_on model (operation.Show (label.Case number)) guess answer none = refl
own_leads_on model (operation.Show (label.Wrap wrap)) guess answer none = refl
own_leads_on model (operation.Show (label.Look holds)) guess answer none = refl
own_leads_on model (operation.Show (label.Offset offset)) guess answer none = refl
own_leads_on model (operation.Show (label.Callee function)) guess answer none = refl
own_leads_on model (operation.Show (label.Alloc gives)) guess answer none = absurd none
