-- The site after all tokens determines whether they are inside.
use Rattle.std.proofs.Common.{sym, ap, ◌∙◌}
use Rattle.cs_unsupported.specs.Sites.{Site, is_inside}
use Rattle.cs_unsupported.specs.Readings.{kinds}
use Rattle.cs_unsupported.proofs.InsideFiles.{stands_inside, has_site}
use Rattle.cs_unsupported.proofs.inside.is_inside.Goals as goal

pub returns : goal.returns
returns c = λ b.
    let reported = c.is_inside.ensures ∙ ap (λ (s : Site). is_inside s.within) c.in_ok-read.ensures in
    (λ is. stands_inside (kinds c.args.before.now) b (sym reported ∙ is), λ may. reported ∙ has_site (kinds c.args.before.now) may)
