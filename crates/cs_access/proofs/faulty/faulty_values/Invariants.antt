use Rattle.std.proofs.Common.{◌≡◌, take}
use Rattle.cs_ranges.specs.RangeSet.{contains}
use Rattle.cs_terms.specs.Term.{Valuation, value_of}
use Rattle.cs_checker.specs.declared.subject.Subject.{Subject}
use Rattle.cs_checker.specs.Answers.{some_holds, HasTermsFor}
use Rattle.cs_access.specs.Subjects.{term_of, CanDecide}
use Rattle.cs_access.proofs.faulty.faulty_values.Given as goal

abbrev pub invariant-loop-cond : goal.invariant-loop-cond
invariant-loop-cond l = (subject : Subject) → HasTermsFor subject l.conds → (v : Valuation) → CanDecide subject v
    → contains l.set (value_of v (term_of subject)) ≡ some_holds (take l.cond-index l.conds) v
