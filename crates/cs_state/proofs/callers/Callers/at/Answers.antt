use Rattle.std.proofs.Common.{◌≡◌, Some, length, sym, ap, ◌∙◌, arith}
use Rattle.std.specs.Option.{unwrap_or}
use Rattle.cs_state.specs.Callers.{no_frame, frame_at}
use Rattle.cs_state.proofs.Depths.{length-nearest_first, from_entry}
use Rattle.cs_state.proofs.callers.Callers.at.Goals as goal

pub returns-in-Some-clause-some : goal.returns-in-Some-clause-some
returns-in-Some-clause-some c =
    let there : frame_at c.self.inside.frames c.args.depth ≡ c.frame.result.now
    = ap (λ found. unwrap_or found no_frame) (sym c.in-Some.ensures) ∙ sym c.frame.ensures in
    rw (← c.self.view_is) (from_entry c.self.inside.frames c.self.inside.depth c.args.depth (omega arith) ∙ ap Some there)

pub returns-in-Some-clause-none : goal.returns-in-Some-clause-none
returns-in-Some-clause-none c beyond =
    let long : c.self.inside.depth ≡ length c.args.self.now
    = length-nearest_first c.self.inside.frames c.self.inside.depth ∙ ap length c.self.view_is in
    absurd (omega (arith, long, beyond))
