-- Partners that are chosen for a guess among candidates.
use Rattle.std.specs.Prelude.{◌≡◌, ◌≢◌, ℕ, ℤ, IsTrue, List, Option, Some, slice_get}
use Rattle.cs_types.specs.declared.data_model.DataModel.{DataModel}
use Rattle.cs_events.specs.declared.operation.Operation.{Operation}
use Rattle.cs_results.specs.declared.run.Others.{Others}
use Rattle.cs_results.specs.declared.run.Others.TheVariants.{Two}
use Rattle.cs_findings.specs.Runs.{AllRelated}
use Rattle.cs_findings.specs.Operands.{operands}
use Rattle.cs_findings.specs.Grounds.{Pair, has_ground}
use Rattle.cs_compared.specs.Computable.{IsComputable}
use Rattle.cs_compared.specs.Wide.{IsSmall, AreSmall}
use Rattle.cs_judge.specs.declared.choosing.Candidate.{Candidate}

-- there is a ground, and the judge can compute it
pub record IsGround (model : DataModel) (operation : Operation) (pairs : Others Pair) : Type 0 where
  pub computable : IsComputable operation
  pub small : IsSmall (operands operation)
  pub others_small : AreSmall pairs
  pub has_reason : IsTrue (has_ground model operation pairs)

module _ (candidates : List Candidate) where
  -- a candidate has this number and these operands
  pub record IsCandidate (number : ℕ) (pair : Pair) : Type 0 where
    pub place : ℕ
    pub there : slice_get candidates place ≡ Some (record { number = number; pair = pair })

  -- the numbers are those of candidates that together are a ground
  pub record GivesGround (model : DataModel) (operation : Operation) (numbers : Others ℕ) : Type 0 where
    pub pairs : Others Pair
    pub are : AllRelated IsCandidate numbers pairs
    pub small : AreSmall pairs
    pub has_reason : IsTrue (has_ground model operation pairs)

  -- the number is that of a candidate that is a ground together with a run of these operands
  pub record GivesGroundWith (model : DataModel) (operation : Operation) (first : Pair) (number : ℕ) : Type 0 where
    pub second : Pair
    pub candidate : IsCandidate number second
    pub small : AreSmall (Two first second)
    pub has_reason : IsTrue (has_ground model operation (Two first second))

  -- a candidate is named whose operand differs
  pub record NamesOther (operation : Operation) (operand : Pair → ℤ) (named : Option ℕ) : Type 0 where
    pub number : ℕ
    pub is : named ≡ Some number
    pub pair : Pair
    pub candidate : IsCandidate number pair
    pub differs : operand pair ≢ operand (operands operation)
