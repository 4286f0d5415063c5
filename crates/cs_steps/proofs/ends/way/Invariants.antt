-- The block for the number is its block among the remaining cases.
use Rattle.std.proofs.Common.{◌≡◌, drop, map}
use Rattle.cs_terms.specs.Term.{Valuation, value_of}
use Rattle.cs_constraints.specs.Constraints.{Fits}
use Rattle.cs_cfg.specs.GraphView.{switch_case}
use Rattle.cs_spots.proofs.Ways.{led}
use Rattle.cs_steps.proofs.ends.way.Given as goal

abbrev pub invariant-loop-case : goal.invariant-loop-case
invariant-loop-case l = (v : Valuation) → Fits v l.state.constraints
    → led l.otherwise (value_of v l.term) (map switch_case l.cases)
    ≡ led l.otherwise (value_of v l.term) (map switch_case (drop l.case-index l.cases))
