use Rattle.std.proofs.Common.{◌∙◌}
use Rattle.cs_state.specs.Naming.{naming}
use Rattle.cs_suspects.proofs.GuessNumbers.{none_made, one_made, all_made}
use Rattle.cs_suspects.proofs.suspected.guesses_of.Goals as goal

pub loop-asked-init : goal.loop-asked-init
loop-asked-init c =
    let state = c.args.state.now in
    none_made (naming c.args.tables.now) state.constraints state.asked c.new-guesses.result.items c.into_iter-asked-iterator.result
    c.new-guesses.ensures.items (c.into_iter-asked-iterator.ensures.into_iter_gives ∙ c.in_ok-items.ensures)

pub loop-asked-preserved : goal.loop-asked-preserved
loop-asked-preserved c =
    let state = c.args.state.now in
    let asked = c.in-Some.asked.now in
    one_made (naming c.args.tables.now) state.constraints state.asked c.loop-asked.guesses.items c.push.new.self.items (c.in-Some.field-0-0, asked)
    c.loop-asked.asked-iterator c.next.new.self c.in_ok-suspected_guess.field-0 c.in-Some.ensures.steps c.in_ok-push.ensures.items
    c.in_ok-suspected_guess.ensures c.loop-asked.invariant

pub returns : goal.returns
returns c =
    let state = c.args.state.now in
    all_made (naming c.args.tables.now) state.constraints state.asked c.loop-asked.guesses.items c.loop-asked.asked-iterator
    c.in-None.ensures.steps.0 c.loop-asked.invariant
