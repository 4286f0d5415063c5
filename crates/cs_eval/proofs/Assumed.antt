-- Assumptions as halves of constraints: for the contract of `split_by_sign`.
use Rattle.std.proofs.Common.{◌≡◌, Bool, true, false, List, Option, Some, None, refl, sym, ◌∙◌}
use Rattle.std.specs.Prelude.{not, MatchOption}
use Rattle.cs_ranges.specs.declared.range_set.Interval.{Interval}
use Rattle.cs_ranges.specs.RangeSet.{contains}
use Rattle.cs_terms.specs.declared.term.Lin.{Lin}
use Rattle.cs_terms.specs.Term.{Valuation, value_of}
use Rattle.cs_constraints.specs.Constraints.{Sets, Fits, Keeps, RulesOut}
use Rattle.cs_eval.specs.Parts.{Truths, IsHalf}

-- a truth, or its opposite
abbrev pub turned : Bool → Bool → Bool
turned true b = b
turned false b = not b

turned-true : (holds b : Bool) → turned holds b ≡ true → b ≡ holds
turned-true true b e = e
turned-true false true e = absurd (cc)
turned-true false false e = refl

turned-false : (holds b : Bool) → turned holds b ≡ false → b ≡ not holds
turned-false true b e = e
turned-false false true e = refl
turned-false false false e = absurd (cc)

turned-same : (holds b : Bool) → b ≡ holds → turned holds b ≡ true
turned-same true b e = e
turned-same false true e = absurd (cc)
turned-same false false e = refl

-- the half of constraints in which a truth is `holds`, by assuming a set that has a term's value exactly there
pub half_of : (sets : Sets) (term : Lin) (set : List Interval) (truth : Truths) (holds : Bool)
    → ((v : Valuation) → Fits v sets → contains set (value_of v term) ≡ turned holds (truth v))
    → (answer : Option Sets) → MatchOption answer (RulesOut sets term set) (Keeps sets term set) → IsHalf sets term.sym truth holds answer
half_of sets term set truth holds same None m = λ v fits. turned-false holds (truth v) (sym (same v fits) ∙ m v fits)
half_of sets term set truth holds same (Some after) m = record {
  exactly = λ v. (
    λ fits. let both = (m.exactly v).0 fits in (both.0, turned-true holds (truth v) (sym (same v both.0) ∙ both.1)),
    λ both. (m.exactly v).1 (both.0, same v both.0 ∙ turned-same holds (truth v) both.1),
  );
  some = m.some;
  same_symbols = m.same_symbols;
  within = m.within;
  others = m.others;
}

-- a double negation
pub not-not : (b : Bool) → not (not b) ≡ b
not-not true = refl
not-not false = refl
