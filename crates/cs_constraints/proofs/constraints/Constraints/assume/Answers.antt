use Rattle.std.proofs.Common.{rules, ◌≡◌, true, false, Option, to_z, of_z}
use Rattle.std.specs.Prelude.{MatchOption}
use Rattle.std.specs.Int.{w128}
use Rattle.std.proofs.lemmas.Result.{IfOk-weaker}
use Rattle.cs_ranges.specs.RangeSet.{IsEmpty}
use Rattle.cs_constraints.specs.Constraints.{Sets, AreInhabited, IsNarrowed, Keeps, RulesOut}
use Rattle.cs_constraints.proofs.Assuming.{constant_answer, narrowed_answer, KeptNumbers}
use Rattle.cs_constraints.proofs.constraints.Constraints.assume.Goals as goal

pub returns-in_default : goal.returns-in_default
returns-in_default c =
    let sets = c.args.self.now in
    let term = c.args.term in
    let set = c.args.set.now in
    let holds = c.contains.result in
    let value : to_z w128 (of_z w128 term.value) ≡ term.value = search rules in
    let yields = rw value at c.contains.ensures in
    let IsCopy : Option Sets → Type 0 = λ answer. MatchOption answer (holds ≡ false) (λ copy. (holds ≡ true) × (copy ≡ sets) × AreInhabited copy) in
    let IsAnswer : Option Sets → Type 0 = λ answer. MatchOption answer (RulesOut sets term set) (Keeps sets term set) in
    IfOk-weaker _ IsCopy IsAnswer (λ answer. constant_answer sets term set holds answer c.in_default.is yields) c.copy_if.ensures

pub returns : goal.returns
returns c =
    let sets = c.args.self.now in
    let term = c.args.term in
    let set = c.args.set.now in
    let s = c.in-Some.sym in
    let kept = c.in_ok-kept.kept in
    let IsMade : Option Sets → Type 0 = λ answer. MatchOption answer (IsEmpty kept) (λ after. IsNarrowed sets s.0 kept after × AreInhabited after) in
    let IsAnswer : Option Sets → Type 0 = λ answer. MatchOption answer (RulesOut sets term set) (Keeps sets term set) in
    let numbers : KeptNumbers sets s term set kept = c.in_ok-kept.ensures in
    IfOk-weaker _ IsMade IsAnswer (λ answer. narrowed_answer sets term set kept s answer c.in-Some.is (c.requires.declared s c.in-Some.is) numbers)
    c.narrowed.ensures
