-- The site after all tokens determines whether they are inside, and whether the last of them are a tag's.
use Rattle.std.proofs.Common.{sym, ap, ◌∙◌}
use Rattle.std.proofs.lemmas.Bool.{false≢true}
use Rattle.cs_unsupported.specs.Sites.{Site, is_inside, is_tagging}
use Rattle.cs_unsupported.specs.Readings.{kinds}
use Rattle.cs_unsupported.proofs.InsideFiles.{stands_inside, has_site}
use Rattle.cs_unsupported.proofs.Tags.{tag_last, tag_reported}
use Rattle.cs_unsupported.proofs.inside.is_tag_inside.Goals as goal

pub returns-then-not-is_tag : goal.returns-then-not-is_tag
returns-then-not-is_tag c = λ b.
    let reported = c.is_tag.ensures ∙ ap (λ (s : Site). is_tagging s.following) c.in_ok-reading.ensures in
    (λ is. absurd (false≢true is), λ both. absurd (false≢true (sym c.if-not-is_tag.true ∙ reported ∙ tag_reported (kinds c.args.before.now) both.0)))

pub returns : goal.returns
returns c = λ b.
    let tag = sym (ap (λ (s : Site). is_tagging s.following) c.in_ok-reading.ensures) ∙ sym c.is_tag.ensures ∙ c.if-not-is_tag.false in
    let reported = c.is_inside.ensures ∙ ap (λ (s : Site). is_inside s.within) c.in_ok-reading.ensures in (
      λ is. (tag_last (kinds c.args.before.now) tag, stands_inside (kinds c.args.before.now) b (sym reported ∙ is)),
      λ both. reported ∙ has_site (kinds c.args.before.now) both.1,
    )
