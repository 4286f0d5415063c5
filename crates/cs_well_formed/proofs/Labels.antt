-- If labels are numbered in their order, each number below their count is that of a label: for jumps.
use Rattle.std.proofs.Common.{◌≡◌, ℕ, suc, ◌+◌, ◌≤◌, ◌<◌, ◌⊎◌, inl, inr, arith}
use Rattle.std.proofs.lemmas.Bool.{cases_lt, cases_eq}
use Rattle.cs_ast.specs.TypedTree.{Statement, Block, Declare, Run, If, IfElse, While, Do, For, Switch, Goto, Label, Break, Continue, Return, Statements, Empty}
use Rattle.cs_ast.specs.TypedTree.{Then}
use Rattle.cs_well_formed.specs.Statements.{label_count, label_counts, AreNumbered, AllAreNumbered}
use Rattle.cs_well_formed.specs.Landing.{HasLabel, SomeHasLabel, LabelsAreThere}

-- a number of a range is in one of its two parts
in_parts : (A B : Type 0) (n low first others : ℕ) → low ≤ n → n < low + (first + others) → (n < low + first → A)
    → (low + first ≤ n → n < (low + first) + others → B) → A ⊎ B
in_parts A B n low first others above below one other = by_part (cases_lt n (low + first))
  where
    by_part : (n < low + first) ⊎ (low + first ≤ n) → A ⊎ B
    by_part (inl before) = inl (one before)
    by_part (inr following) = inr (other following (omega (arith, below)))

nowhere : {A : Type 0} (n low : ℕ) → low ≤ n → n < low + 0 → A
nowhere n low above below = absurd (omega (arith, above, below))

mutual
  in_statement : (b : Statement) (n low : ℕ) → AreNumbered low b → low ≤ n → n < low + label_count b → HasLabel n b
  in_statement (Block at statements) n low h above below = in_statements statements n low h above below
  in_statement (If at test body) n low h above below = in_statement body n low h above below
  in_statement (IfElse at test body other) n low h above below =
      in_parts (HasLabel n body) (HasLabel n other) n low (label_count body) (label_count other) above below
      (λ before. in_statement body n low h.0 above before)
      (λ following end. in_statement other n (low + label_count body) h.1 following end)
  in_statement (While at test body) n low h above below = in_statement body n low h above below
  in_statement (Do at body test) n low h above below = in_statement body n low h above below
  in_statement (For at first test last body) n low h above below = in_statement body n low h.1 above below
  in_statement (Switch at value cases statements) n low h above below = in_statements statements n low h above below
  in_statement (Label at label body) n low h above below =
      by_number (cases_eq low n) (λ apart. in_statement body n (suc low) h.1 (omega (arith, above, apart)) (omega (arith, below)))
    where
      by_number : (low ≡ n) ⊎ (low ≡ n → ⊥) → ((low ≡ n → ⊥) → HasLabel n body) → (label ≡ n) ⊎ HasLabel n body
      by_number (inl is) inner = let same : label ≡ n = cc in inl same
      by_number (inr apart) inner = inr (inner apart)
  in_statement (Declare at number first) n low h above below = nowhere n low above below
  in_statement (Run at e) n low h above below = nowhere n low above below
  in_statement (Goto at label) n low h above below = nowhere n low above below
  in_statement (Break at) n low h above below = nowhere n low above below
  in_statement (Continue at) n low h above below = nowhere n low above below
  in_statement (Return at value) n low h above below = nowhere n low above below

  in_statements : (bs : Statements) (n low : ℕ) → AllAreNumbered low bs → low ≤ n → n < low + label_counts bs → SomeHasLabel n bs
  in_statements Empty n low h above below = nowhere n low above below
  in_statements (Then first others) n low h above below =
      in_parts (HasLabel n first) (SomeHasLabel n others) n low (label_count first) (label_counts others) above below
      (λ before. in_statement first n low h.0 above before)
      (λ following end. in_statements others n (low + label_count first) h.1 following end)

pub labels_are_there : LabelsAreThere
labels_are_there body n h below = in_statement body n 0 h (omega arith) (omega (arith, below))
