-- The label of an operation determines whether the operation is followed there, and a guess that shows a truth is that of a test: for `back` of `IsChildOf`.
use Rattle.std.proofs.Common.{◌≡◌, inl, inr, ℕ, zero, suc, ℤ, pos, negsuc, Bool, true, false, List, Option, None, Some, refl, sym, ap, ◌∙◌}
use Rattle.std.proofs.Common.{◌≤ℤ◌, subst, arith}
use Rattle.std.proofs.lemmas.Int.{ints}
use Rattle.cs_types.specs.declared.data_model.DataModel.{DataModel}
use Rattle.cs_types.specs.declared.int_type.IntType.{IntType}
use Rattle.cs_ast.specs.declared.place.Place.{Place}
use Rattle.cs_ast.specs.declared.typed.operator.BinOp.{BinOp}
use Rattle.cs_ast.specs.declared.typed.operator.BinOp.TheVariants.{Add, Sub, Mul, Div, Rem, Shl, Shr, And, Xor, Or}
use Rattle.cs_terms.specs.declared.term.Lin.{Lin}
use Rattle.cs_terms.specs.Pieces.{IsFar}
use Rattle.cs_terms.specs.Term.{Valuation, value_of}
use Rattle.cs_constraints.specs.Constraints.{Sets}
use Rattle.cs_events.specs.declared.event.Label.TheVariants as label
use Rattle.cs_events.specs.declared.event.Wrap.{Wrap}
use Rattle.cs_events.specs.declared.event.Wrap.TheVariants.{Under, Same, Past, Far, Guessed}
use Rattle.cs_events.specs.declared.operation.Operation.TheVariants as operation
use Rattle.cs_events.specs.Operations.{own_quotient, own_result, result_with, is_true, truth_number, shows, wrap_of}
use Rattle.cs_cfg.specs.declared.code.SwitchCase.{SwitchCase}
use Rattle.cs_eval.specs.declared.question.Question.{Question}
use Rattle.cs_eval.specs.declared.question.Question.TheVariants as question
use Rattle.cs_eval.specs.Cases.{asking_of_cases}
use Rattle.cs_eval.specs.Followed.{IsFollowed, IsGuess, IsBinaryGuess, IsRemainder, asking_of}
use Rattle.cs_eval.specs.Operands.{IsBetween}
use Rattle.cs_eval.specs.Questions.{operation_of}
use Rattle.cs_eval.specs.Splits.{Asking}
use Rattle.cs_eval.proofs.WrapPieces.{which_quotient}
use Rattle.cs_explored.specs.declared.watch.Rule.{Rule}
use Rattle.cs_explored.specs.Watching.{IsPhaseAfterLabel}
use Rattle.cs_successors.specs.Coming.{IsTruth}

module _ (model : DataModel) (asking : Asking) where
  -- the question is a test: any truth may be guessed for it, and is shown; whether it is followed doesn't depend on the valuation
  pub record IsTest (v w : Valuation) : Type 0 where
    pub followed : asking.IsFollowed v → asking.IsFollowed w
    pub may : (truth : Bool) → asking.IsGuess v (truth_number truth)
    pub own : (truth : Bool) × (own_result model (asking.operation v) ≡ truth_number truth)
    pub shown : (given : Option ℤ)
        → shows model (asking.operation v) given ≡ label.Truth (is_true (result_with model (asking.operation v) given))

  -- if an operation shows the same label without a guess under two valuations, it is followed under both or neither. A guess that shows an operation's own
  -- label is a truth, and a truth is guessed only for a test. Nothing is guessed at a call, so the phase is the same with a guess
  pub record TellsFollowed : Type 0 where
    pub alike : (v w : Valuation) → asking.IsFollowed v
        → shows model (asking.operation v) None ≡ shows model (asking.operation w) None → asking.IsFollowed w
    pub truth : (v w : Valuation) (number : ℤ) → asking.IsGuess w number
        → shows model (asking.operation w) (Some number) ≡ shows model (asking.operation v) None
        → IsTruth (shows model (asking.operation w) (Some number))
    pub test : (v w : Valuation) (number : ℤ) → asking.IsGuess w number → IsTruth (shows model (asking.operation w) (Some number)) → IsTest v w
    pub may : (v w : Valuation) (number : ℤ) → asking.operation v ≡ asking.operation w → asking.IsGuess v number → asking.IsGuess w number
    pub phases : (v w : Valuation) (number : ℤ) → asking.IsGuess w number → (rules : List Rule) (phase : ℕ) (place : Place) (after : ℕ)
        → IsPhaseAfterLabel rules phase place (shows model (asking.operation w) (Some number)) after
        → IsPhaseAfterLabel rules phase place (shows model (asking.operation v) None) after

-- the label `Far` is shown exactly for a far quotient
far_shows : (q : ℤ) → IsFar q → wrap_of q ≡ Far
far_shows (pos zero) far = absurd (far.1 refl)
far_shows (pos (suc zero)) far = absurd (far.2 refl)
far_shows (pos (suc (suc n))) far = refl
far_shows (negsuc zero) far = absurd (far.0 refl)
far_shows (negsuc (suc n)) far = refl

shows_far : (q : ℤ) → wrap_of q ≡ Far → IsFar q
shows_far q shown = elim (which_quotient q) [
  | inl under ↦ let wrong : Under ≡ Far = sym (ap wrap_of under) ∙ shown in absurd (cc)
  | inr (inl same) ↦ let wrong : Same ≡ Far = sym (ap wrap_of same) ∙ shown in absurd (cc)
  | inr (inr (inl past)) ↦ let wrong : Past ≡ Far = sym (ap wrap_of past) ∙ shown in absurd (cc)
  | inr (inr (inr far)) ↦ far
]

-- no quotient shows a guess
no_guess : (q : ℤ) → Guessed ≡ wrap_of q → ⊥
no_guess (pos zero) e = cc
no_guess (pos (suc zero)) e = cc
no_guess (pos (suc (suc n))) e = cc
no_guess (negsuc zero) e = cc
no_guess (negsuc (suc n)) e = cc

same_wrap : (one other : Wrap) → label.Wrap one ≡ label.Wrap other → one ≡ other
same_wrap one other e = cc

-- of two quotients with the same label both are far or neither is
near_alike : (p q : ℤ) → label.Wrap (wrap_of p) ≡ label.Wrap (wrap_of q) → ¬ IsFar p → ¬ IsFar q
near_alike p q shown near far = near (shows_far p (same_wrap (wrap_of p) (wrap_of q) shown ∙ far_shows q far))

-- a truth is a number that may be guessed
is_between : (truth : Bool) → IsBetween (pos 0) (pos 1) (truth_number truth)
is_between true = (omega (arith, ints), omega (arith, ints))
is_between false = (omega (arith, ints), omega (arith, ints))

no_truth : (q : ℤ) → label.Wrap Guessed ≡ label.Wrap (wrap_of q) → ⊥
no_truth q e = no_guess q (same_wrap Guessed (wrap_of q) e)

module _ (model : DataModel) (sets : Sets) where
  alike : (asked : Question) (v w : Valuation) → IsFollowed model sets asked v
      → shows model (operation_of v asked) None ≡ shows model (operation_of w asked) None → IsFollowed model sets asked w
  alike (question.Binary op ty left right) v w followed shown = elim followed [
    | inl fixed ↦ inl fixed
    | inr near ↦ inr (
      near.0,
      near_alike (own_quotient model (operation_of v (question.Binary op ty left right)))
          (own_quotient model (operation_of w (question.Binary op ty left right))) shown near.1,
    )
  ]
  alike (question.Convert ty term) v w followed shown = elim followed [
    | inl fixed ↦ inl fixed
    | inr near ↦ inr (near_alike (own_quotient model (operation_of v (question.Convert ty term)))
        (own_quotient model (operation_of w (question.Convert ty term))) shown near)
  ]
  alike (question.Unary op ty term) v w followed shown = tt
  alike (question.Compare op left right) v w followed shown = followed
  alike (question.Order first second) v w followed shown = followed
  alike (question.Product count size) v w followed shown = followed
  alike (question.Sum offset amount size) v w followed shown = followed
  alike (question.Difference left right size) v w followed shown = followed
  alike (question.Test tested term) v w followed shown = tt
  alike (question.Callee function) v w followed shown = tt

  truth : (asked : Question) (v w : Valuation) (number : ℤ) → IsGuess model sets asked w number
      → shows model (operation_of w asked) (Some number) ≡ shows model (operation_of v asked) None
      → IsTruth (shows model (operation_of w asked) (Some number))
  truth (question.Binary op ty left right) v w number may shown =
      absurd (no_truth (own_quotient model (operation_of v (question.Binary op ty left right))) shown)
  truth (question.Convert ty term) v w number may shown = absurd (no_truth (own_quotient model (operation_of v (question.Convert ty term))) shown)
  truth (question.Sum offset amount size) v w number may shown = absurd (no_truth (pos 0) shown)
  truth (question.Difference left right size) v w number may shown = absurd (no_truth (pos 0) shown)
  truth (question.Compare op left right) v w number may shown = tt
  truth (question.Order first second) v w number may shown = tt
  truth (question.Product count size) v w number may shown = tt
  truth (question.Unary op ty term) v w number may shown = absurd may
  truth (question.Test tested term) v w number may shown = absurd may
  truth (question.Callee function) v w number may shown = absurd may

  test : (asked : Question) (v w : Valuation) (number : ℤ) → IsGuess model sets asked w number
      → IsTruth (shows model (operation_of w asked) (Some number)) → IsTest model (asking_of model sets asked) v w
  test (question.Compare op left right) v w number may shown =
      record { followed = λ followed. followed; may = is_between; own = (_, refl); shown = λ given. refl }
  test (question.Order first second) v w number may shown =
      record { followed = λ followed. followed; may = is_between; own = (_, refl); shown = λ given. refl }
  test (question.Product count size) v w number may shown =
      record { followed = λ followed. followed; may = is_between; own = (_, refl); shown = λ given. refl }
  test (question.Binary op ty left right) v w number may shown = absurd shown
  test (question.Convert ty term) v w number may shown = absurd shown
  test (question.Sum offset amount size) v w number may shown = absurd shown
  test (question.Difference left right size) v w number may shown = absurd shown
  test (question.Unary op ty term) v w number may shown = absurd may
  test (question.Test tested term) v w number may shown = absurd may
  test (question.Callee function) v w number may shown = absurd may

  phases : (asked : Question) (v w : Valuation) (number : ℤ) → IsGuess model sets asked w number
      → (rules : List Rule) (phase : ℕ) (place : Place) (after : ℕ)
      → IsPhaseAfterLabel rules phase place (shows model (operation_of w asked) (Some number)) after
      → IsPhaseAfterLabel rules phase place (shows model (operation_of v asked) None) after
  phases (question.Binary op ty left right) v w number may rules phase place after is = is
  phases (question.Convert ty term) v w number may rules phase place after is = is
  phases (question.Compare op left right) v w number may rules phase place after is = is
  phases (question.Order first second) v w number may rules phase place after is = is
  phases (question.Product count size) v w number may rules phase place after is = is
  phases (question.Sum offset amount size) v w number may rules phase place after is = is
  phases (question.Difference left right size) v w number may rules phase place after is = is
  phases (question.Unary op ty term) v w number may rules phase place after is = absurd may
  phases (question.Test tested term) v w number may rules phase place after is = absurd may
  phases (question.Callee function) v w number may rules phase place after is = absurd may

  -- which numbers may be guessed depends on the operation's operands
  same_binary : (op : BinOp) (ty : IntType) (left right : Lin) (v w : Valuation)
      → operation.Binary op ty (value_of v left) (value_of v right) ≡ operation.Binary op ty (value_of w left) (value_of w right)
      → (value_of v left ≡ value_of w left) × (value_of v right ≡ value_of w right)
  same_binary op ty left right v w same =
      let first : value_of v left ≡ value_of w left = cc in
      let second : value_of v right ≡ value_of w right = cc in
      (first, second)

  may_binary : (op : BinOp) (ty : IntType) (left right : Lin) (v w : Valuation) (number : ℤ) → value_of v left ≡ value_of w left
      → value_of v right ≡ value_of w right → IsBinaryGuess model sets op ty left right v number → IsBinaryGuess model sets op ty left right w number
  may_binary Add ty left right v w number first second may = may
  may_binary Sub ty left right v w number first second may = may
  may_binary Mul ty left right v w number first second may = may
  may_binary Div ty left right v w number first second may = may
  may_binary Rem ty left right v w number first second may =
      (may.0, λ fixed. subst (λ (divisor : ℤ). IsRemainder ty divisor number) second (may.1 fixed))
  may_binary Shl ty left right v w number first second may = may
  may_binary Shr ty left right v w number first second may = may
  may_binary And ty left right v w number first second may = (
    may.0,
    λ fixed. subst (λ (mask : ℤ). pos 0 ≤ℤ mask → IsBetween (pos 0) mask number) first (may.1 fixed),
    λ fixed. subst (λ (mask : ℤ). pos 0 ≤ℤ mask → IsBetween (pos 0) mask number) second (may.2 fixed),
  )
  may_binary Xor ty left right v w number first second may = may
  may_binary Or ty left right v w number first second may = may

  may : (asked : Question) (v w : Valuation) (number : ℤ) → operation_of v asked ≡ operation_of w asked → IsGuess model sets asked v number
      → IsGuess model sets asked w number
  may (question.Binary op ty left right) v w number same allowed =
      let values = same_binary op ty left right v w same in
      may_binary op ty left right v w number values.0 values.1 allowed
  may (question.Convert ty term) v w number same allowed = allowed
  may (question.Compare op left right) v w number same allowed = allowed
  may (question.Order first second) v w number same allowed = allowed
  may (question.Product count size) v w number same allowed = allowed
  may (question.Sum offset amount size) v w number same allowed = allowed
  may (question.Difference left right size) v w number same allowed = allowed
  may (question.Unary op ty term) v w number same allowed = absurd allowed
  may (question.Test tested term) v w number same allowed = absurd allowed
  may (question.Callee function) v w number same allowed = absurd allowed

  -- so it is for each question
  pub question_tells : (asked : Question) → TellsFollowed model (asking_of model sets asked)
  question_tells asked = record { alike = alike asked; truth = truth asked; test = test asked; may = may asked; phases = phases asked }

-- and for a `switch`, which is always followed
pub cases_tell : (model : DataModel) (term : Lin) (cases : List SwitchCase) → TellsFollowed model (asking_of_cases term cases)
cases_tell model term cases = record {
  alike = λ v w followed shown. tt;
  truth = λ v w number may shown. absurd may;
  test = λ v w number may shown. absurd may;
  may = λ v w number same allowed. absurd allowed;
  phases = λ v w number may watched phase place after is. absurd may;
}
