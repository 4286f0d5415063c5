-- The effect of a query on checkers.
use Rattle.std.specs.Prelude.{◌≡◌, ◌⊎◌, ℕ, ◌+◌, ◌-◌, ◌^◌, List, [], ◌∷◌}
use Rattle.cs_model.specs.declared.kind.Kind.{Kind}
use Rattle.cs_checker.specs.declared.subject.Subject.{Subject}
use Rattle.cs_checker.specs.declared.answer.Answer.{Answer}
use Rattle.cs_checker.specs.Answers.{YieldsFaults, HasTermsFor}

-- the count is one more, or it stays at its last value
abbrev pub CountsOne : ℕ → ℕ → Type 0
CountsOne old new = (new ≡ old + 1) ⊎ ((old ≡ 2 ^ 64 - 1) × (new ≡ old))

-- one checker was queried once: it keeps its kind, counts one, and returns the faults of its kind
pub record IsAnsweredBy (kind kind_after : Kind) (count count_after : ℕ) (subject : Subject) (answer : Answer) : Type 0 where
  pub kept : kind_after ≡ kind
  pub counted : CountsOne count count_after
  pub faults : YieldsFaults kind subject answer.conds
  pub terms : HasTermsFor subject answer.conds

-- each checker was queried once, and the answers are in the order of the checkers
abbrev pub IsAsked : {Checker : Type 0} → (Checker → Kind) → (Checker → ℕ) → Subject → List Checker → List Checker → List Answer → Type 0
IsAsked kind count subject [] [] [] = Unit {0}
IsAsked kind count subject (old ∷ olds) (new ∷ news) (answer ∷ answers) =
    IsAnsweredBy (kind old) (kind new) (count old) (count new) subject answer × IsAsked kind count subject olds news answers
IsAsked kind count subject olds news answers = ⊥
