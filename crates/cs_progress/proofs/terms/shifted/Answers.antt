use Rattle.std.proofs.Common.{◌≡◌, ◌+ℤ◌, to_z, of_z, sym, subst, ◌∙◌, rules}
use Rattle.std.specs.Int.{w128}
use Rattle.std.specs.Int.RustNames.{FitsSigned}
use Rattle.std.proofs.lemmas.Int.{to_z-of_z}
use Rattle.cs_progress.proofs.KnownTerms.{moved_value}
use Rattle.cs_progress.proofs.terms.shifted.Goals as goal

pub returns-clause-value : goal.returns-clause-value
returns-clause-value c = λ v.
    let term = c.args.term in
    let slope : to_z w128 (of_z w128 term.slope) ≡ term.slope = search rules in
    let at : to_z w128 (of_z w128 term.at) ≡ term.at = search rules in
    let old : to_z w128 (of_z w128 term.value) ≡ term.value = search rules in
    let by = to_z-of_z w128 c.args.by c.ranges.by in
    let value = c.in-Some.value in
    let fits : FitsSigned w128 value = subst (FitsSigned w128) (sym c.in-Some.ensures.1) c.in-Some.ensures.0 in
    let is : value ≡ term.value +ℤ c.args.by = c.in-Some.ensures.1 ∙ (λ j. old j +ℤ by j) in
    rw (slope, at, to_z-of_z w128 value fits) (moved_value v term value c.args.by is)
