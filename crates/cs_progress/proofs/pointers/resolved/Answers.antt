use Rattle.std.proofs.Common.{◌≡◌, pos, Some, true, false, to_z, of_z, ap, ◌∙◌, rules}
use Rattle.std.specs.Int.{w128}
use Rattle.cs_terms.specs.Term.{value_of}
use Rattle.cs_eval.specs.Guesses.{symbol_term}
use Rattle.cs_progress.specs.Known.{IsTruthOfValue}
use Rattle.cs_progress.proofs.SeenCells.{start_null, start_at}
use Rattle.cs_progress.proofs.pointers.resolved.Goals as goal

pub returns-in-Some-true-clause-seen : goal.returns-in-Some-true-clause-seen
returns-in-Some-true-clause-seen c = λ bases v fits.
    let state = c.args.state.now in
    let block = c.in_ok-block-in-Start.field-0.now in
    let truth : IsTruthOfValue state.constraints (symbol_term block.sym) (pos 0) (Some true) =
    rw (c.own.ensures, c.in-Some-true.is, c.in-Some-true.field-0-test) at c.in_ok-is_zero-in-Start.ensures.truth in
    rw c.in-Start.is (
    start_null state.constraints bases state.blocks c.in-Start.base c.in-Start.offset block c.in_ok-block-in-Start.ensures truth v fits
    )

pub returns-in-Some-false-clause-seen : goal.returns-in-Some-false-clause-seen
returns-in-Some-false-clause-seen c = λ bases v fits.
    let state = c.args.state.now in
    let block = c.in_ok-block-in-Start.field-0.now in
    let truth : IsTruthOfValue state.constraints (symbol_term block.sym) (pos 0) (Some false) =
    rw (c.own.ensures, c.in-Some-false.is, c.in-Some-false.field-0-test) at c.in_ok-is_zero-in-Start.ensures.truth in
    let number : c.from.result ≡ pos c.in-Start.offset = c.from.ensures in
    let whole : to_z w128 (of_z w128 c.from.result) ≡ c.from.result = search rules in
    let same : value_of v c.constant.result ≡ pos c.in-Start.offset = ap (value_of v) c.constant.ensures ∙ whole ∙ number in
    rw (c.in-Start.is, same) (
    start_at state.constraints bases state.blocks c.in-Start.base c.in-Start.offset block c.in_ok-block-in-Start.ensures truth v fits
    )
