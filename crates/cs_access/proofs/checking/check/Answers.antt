use Rattle.std.proofs.Common.{◌≡◌, [], length, refl, subst, sym, arith}
use Rattle.std.proofs.lemmas.Grind.{common_steps}
use Rattle.cs_access.specs.Kinds.{HaveFaultyValues}
use Rattle.cs_access.specs.declared.checking.Rest.TheVariants.{Whole}
use Rattle.cs_access.proofs.Splits.{faults_of_all, rest_of_all, values_listed, none_listed, each_ok}
use Rattle.cs_access.proofs.checking.check.Goals as goal

pub returns-then-is_empty-clause-faults : goal.returns-then-is_empty-clause-faults
returns-then-is_empty-clause-faults g c =
    let none : length c.in_ok-found.found.items ≡ 0 = grind (arith, common_steps) in
    faults_of_all c.args.state.now c.args.subject.now c.requires _ [] c.new.result.items
    (none_listed c.args.subject.now _ c.in_ok-found.found.items c.in_ok-found.ensures.found none) c.new.ensures.items

pub returns-then-is_empty-clause-rest : goal.returns-then-is_empty-clause-rest
returns-then-is_empty-clause-rest g c =
    let none : length c.in_ok-found.found.items ≡ 0 = grind (arith, common_steps) in
    rest_of_all c.args.state.now c.args.subject.now c.requires _ [] Whole
    (none_listed c.args.subject.now _ c.in_ok-found.found.items c.in_ok-found.ensures.found none) (λ v fits. refl)

pub split-requires-clause-values : goal.split-requires-clause-values
split-requires-clause-values g c =
    subst (HaveFaultyValues c.args.subject.now) (sym c.deref.ensures.value)
    (values_listed c.args.subject.now _ c.in_ok-found.found.items c.in_ok-found.ensures.found)

pub returns-clause-faults : goal.returns-clause-faults
returns-clause-faults g c =
    let faults = rw c.deref.ensures.value at c.split.ensures.faults in
    each_ok c.split.result _ _
    (λ checked are.
    faults_of_all c.args.state.now c.args.subject.now c.requires _ c.in_ok-found.found.items checked.faults.items c.in_ok-found.ensures.found are)
    faults

pub returns-clause-rest : goal.returns-clause-rest
returns-clause-rest g c =
    let rest = rw c.deref.ensures.value at c.split.ensures.rest in
    each_ok c.split.result _ _
    (λ checked is.
    rest_of_all c.args.state.now c.args.subject.now c.requires _ c.in_ok-found.found.items checked.rest c.in_ok-found.ensures.found is)
    rest
