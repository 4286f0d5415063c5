use Rattle.std.proofs.Common.{pos, slice_get}
use Rattle.cs_terms.specs.Term.{value_of}
use Rattle.cs_progress.proofs.Looks.{look_inside, look_block}
use Rattle.cs_progress.proofs.pointers.shown_by.Goals as goal

pub returns-in-At : goal.returns-in-At
returns-in-At c =
    rw (c.in-At.is, c.constant-in-At.ensures)
    (λ bases valuation named at act.
    look_inside (slice_get bases c.in-At.field-0) (value_of valuation c.in-At.field-1) at act named)

pub returns-in_ok-block-in-Start : goal.returns-in_ok-block-in-Start
returns-in_ok-block-in-Start c =
    rw (c.in-Start.is, c.own.ensures)
    (λ bases valuation named at act.
    look_block c.args.state.now.blocks c.in-Start.base c.in_ok-block-in-Start.field-0.now (slice_get bases c.in-Start.base) (pos c.in-Start.field-1) at act
    valuation c.in_ok-block-in-Start.ensures named)
