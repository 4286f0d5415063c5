-- The operation of the run that a question represents under a valuation.
use Rattle.std.specs.Prelude.{Bool, not, ℤ}
use Rattle.cs_terms.specs.Term.{Valuation, value_of}
use Rattle.cs_events.specs.declared.event.Label.{Label}
use Rattle.cs_events.specs.declared.event.Label.TheVariants as label
use Rattle.cs_events.specs.declared.operation.Operation.{Operation}
use Rattle.cs_events.specs.declared.operation.Operation.TheVariants as operation
use Rattle.cs_events.specs.Operations.{is_true}
use Rattle.cs_eval.specs.declared.question.Question.{Question}
use Rattle.cs_eval.specs.declared.question.Question.TheVariants as question
use Rattle.cs_eval.specs.declared.question.Tested.{Tested}
use Rattle.cs_eval.specs.declared.question.Tested.TheVariants.{Look, Branch, Truth, Not, Alloc}

-- what a test shows if it holds, and if it doesn't
abbrev pub label_of : Tested → Bool → Label
label_of Look holds = label.Look holds
label_of Branch holds = label.Branch holds
label_of Truth holds = label.Truth holds
label_of Not holds = label.Truth holds
label_of Alloc holds = label.Alloc holds

-- whether a test holds for a number: whether the number isn't 0, or for `!` whether it is
abbrev pub holds_for : Tested → ℤ → Bool
holds_for Look number = is_true number
holds_for Branch number = is_true number
holds_for Truth number = is_true number
holds_for Not number = not (is_true number)
holds_for Alloc number = is_true number

-- a question with the values of its operands
abbrev pub operation_of : Valuation → Question → Operation
operation_of v (question.Binary op ty left right) = operation.Binary op ty (value_of v left) (value_of v right)
operation_of v (question.Unary op ty term) = operation.Unary op ty (value_of v term)
operation_of v (question.Convert ty term) = operation.Convert ty (value_of v term)
operation_of v (question.Compare op left right) = operation.Compare op (value_of v left) (value_of v right)
operation_of v (question.Order first second) = operation.Order (value_of v first) (value_of v second)
operation_of v (question.Product count size) = operation.Product (value_of v count) (value_of v size)
operation_of v (question.Sum offset amount size) = operation.Sum (value_of v offset) (value_of v amount) size
operation_of v (question.Difference left right size) = operation.Difference (value_of v left) (value_of v right) size
operation_of v (question.Test tested term) = operation.Show (label_of tested (holds_for tested (value_of v term)))
operation_of v (question.Callee function) = operation.Show (label.Callee function)
