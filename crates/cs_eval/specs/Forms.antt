-- The form of operands before an operation on them is followed: a term whose symbol can only have one number becomes a constant.
use Rattle.std.specs.Prelude.{◌≡◌, ℤ, List, [], ◌∷◌, None}
use Rattle.cs_types.specs.declared.data_model.DataModel.{DataModel}
use Rattle.cs_terms.specs.declared.term.Lin.{Lin}
use Rattle.cs_terms.specs.Term.{Valuation, value_of}
use Rattle.cs_constraints.specs.Constraints.{Sets, Fits, IsDeclared, HasOneNumber}
use Rattle.cs_constraints.specs.Prepared.{IsSameFunction}
use Rattle.cs_events.specs.declared.operation.Operation.{Operation}
use Rattle.cs_events.specs.Operations.{own_result, shows}
use Rattle.cs_eval.specs.declared.piece.Piece.{Piece}
use Rattle.cs_eval.specs.declared.question.Question.{Question}
use Rattle.cs_eval.specs.declared.question.Question.TheVariants as question
use Rattle.cs_eval.specs.Parts.{number_term, unguessed}
use Rattle.cs_eval.specs.Questions.{operation_of}

-- the result of `Constraints::prepared` for a term over a declared symbol
pub record IsFormOf (sets : Sets) (given made : Lin) : Type 0 where
  pub declared : IsDeclared sets given.sym
  pub value : (v : Valuation) → Fits v sets → value_of v made ≡ value_of v given
  pub constant : (number : ℤ) → HasOneNumber sets given.sym number → made.sym ≡ None
  pub function : ¬ ((number : ℤ) × HasOneNumber sets given.sym number) → IsSameFunction made given

-- a question of one operand, with the operand in that form
pub record IsFormOfOne (sets : Sets) (term : Lin) (build : Lin → Question) (made : Question) : Type 0 where
  pub operand : Lin
  pub form : IsFormOf sets term operand
  pub is : made ≡ build operand

-- a question of two operands, with both in that form
pub record IsFormOfTwo (sets : Sets) (left right : Lin) (build : Lin → Lin → Question) (made : Question) : Type 0 where
  pub first : Lin
  pub second : Lin
  pub first_form : IsFormOf sets left first
  pub second_form : IsFormOf sets right second
  pub is : made ≡ build first second

-- a question with its operands in that form
abbrev pub IsFormOfQuestion : Sets → Question → Question → Type 0
IsFormOfQuestion sets (question.Binary op ty left right) made = IsFormOfTwo sets left right (λ l r. question.Binary op ty l r) made
IsFormOfQuestion sets (question.Unary op ty term) made = IsFormOfOne sets term (λ t. question.Unary op ty t) made
IsFormOfQuestion sets (question.Convert ty term) made = IsFormOfOne sets term (λ t. question.Convert ty t) made
IsFormOfQuestion sets (question.Compare op left right) made = IsFormOfTwo sets left right (λ l r. question.Compare op l r) made
IsFormOfQuestion sets (question.Order first second) made = IsFormOfTwo sets first second (λ l r. question.Order l r) made
IsFormOfQuestion sets (question.Product count size) made = IsFormOfTwo sets count size (λ l r. question.Product l r) made
IsFormOfQuestion sets (question.Sum offset amount size) made = IsFormOfTwo sets offset amount (λ l r. question.Sum l r size) made
IsFormOfQuestion sets (question.Difference left right size) made = IsFormOfTwo sets left right (λ l r. question.Difference l r size) made
IsFormOfQuestion sets (question.Test tested term) made = IsFormOfOne sets term (λ t. question.Test tested t) made
IsFormOfQuestion sets (question.Callee function) made = made ≡ question.Callee function

-- all operands of a question are constants, and there are some
abbrev pub AreConstants : Question → Type 0
AreConstants (question.Binary op ty left right) = (left.sym ≡ None) × (right.sym ≡ None)
AreConstants (question.Unary op ty term) = term.sym ≡ None
AreConstants (question.Convert ty term) = term.sym ≡ None
AreConstants (question.Compare op left right) = (left.sym ≡ None) × (right.sym ≡ None)
AreConstants (question.Order first second) = (first.sym ≡ None) × (second.sym ≡ None)
AreConstants (question.Product count size) = (count.sym ≡ None) × (size.sym ≡ None)
AreConstants (question.Sum offset amount size) = (offset.sym ≡ None) × (amount.sym ≡ None)
AreConstants (question.Difference left right size) = (left.sym ≡ None) × (right.sym ≡ None)
AreConstants (question.Test tested term) = ⊥
AreConstants (question.Callee function) = ⊥

-- the operation that a question over constants is under each valuation
pub record IsConstantOperation (asked : Question) (of : Operation) : Type 0 where
  pub constants : AreConstants asked
  pub same : (v : Valuation) → operation_of v asked ≡ of

-- the one piece of an operation that is the same under each valuation
abbrev pub operation_pieces : DataModel → Operation → Sets → List Piece
operation_pieces model of sets = unguessed (shows model of None) (number_term (own_result model of)) sets ∷ []
