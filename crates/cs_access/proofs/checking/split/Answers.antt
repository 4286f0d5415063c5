use Rattle.std.proofs.Common.{◌<◌, ◌≤◌, length, sym, subst, arith}
use Rattle.std.proofs.lemmas.Grind.{common_steps}
use Rattle.cs_access.specs.Checks.{IsKnown}
use Rattle.cs_access.specs.Kinds.{kinds_of}
use Rattle.cs_access.proofs.Splits.{known_of, split_none, split_more, split_all, rest_is, no_faults}
use Rattle.cs_access.proofs.checking.split.Goals as goal

pub loop-place-init : goal.loop-place-init
loop-place-init c =
    split_none c.args.state.now c.args.subject.now c.in_ok-good.good c.in_ok-faults.faults.items c.requires.can c.in_ok-faults.ensures.items
    c.in_ok-good.ensures.numbers

pub take_out-requires : goal.take_out-requires
take_out-requires c =
    subst (IsKnown c.args.state.now.constraints) (sym c.deciding_term-term.ensures)
    (known_of c.args.state.now.constraints c.args.subject.now c.requires.can)

pub loop-place-preserved : goal.loop-place-preserved
loop-place-preserved c =
    let within : c.loop-place.place < length c.args.found.now = omega arith in
    let taken = rw c.deciding_term-term.ensures at c.in_ok-take_out.ensures in
    split_more c.args.state.now c.args.subject.now c.args.found.now c.loop-place.place c.index-found-place.result c.index-found-place.is c.requires.can within
    c.requires.values
    c.loop-place.faults.items c.take_out.new.faults.items c.loop-place.good c.in_ok-good-2.good taken c.in_ok-good-2.ensures c.loop-place.invariant

pub rest_of-requires : goal.rest_of-requires
rest_of-requires c =
    subst (IsKnown c.args.state.now.constraints) (sym c.deciding_term-term.ensures)
    (known_of c.args.state.now.constraints c.args.subject.now c.requires.can)

pub returns-clause-rest : goal.returns-clause-rest
returns-clause-rest c =
    let over : length c.args.found.now ≤ c.loop-place.place = omega arith in
    let is = rw c.deciding_term-term.ensures at c.in_ok-rest.ensures in
    rest_is c.args.state.now c.args.subject.now (kinds_of c.args.found.now) c.loop-place.faults.items c.loop-place.good c.is_empty.result
    c.in_ok-rest.rest
    (split_all c.args.state.now c.args.subject.now c.args.found.now c.loop-place.place c.loop-place.faults.items c.loop-place.good over
    c.loop-place.invariant)
    (λ empty. no_faults c.loop-place.faults.items (grind (arith, common_steps, empty, c.is_empty.ensures))) is
