use Rattle.cs_spots.proofs.PushedPlaces.{place_pushed}
use Rattle.cs_steps.proofs.work.name.Goals as goal

pub returns-clause-pushed : goal.returns-clause-pushed
returns-clause-pushed c =
    place_pushed _ c.args.base c.args.state.now c.push.new.state c.push.result c.in_ok-base.base c.constant.result c.constant.ensures
    c.in_ok-base.ensures.named c.push.ensures.pushed c.push.ensures.means
