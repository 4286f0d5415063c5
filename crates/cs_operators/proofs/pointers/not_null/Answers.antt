use Rattle.std.proofs.Common.{◌≡◌, ap, sym, ◌∙◌}
use Rattle.cs_meaning.specs.Access as access
use Rattle.cs_operators.proofs.Checks.{through_check}
use Rattle.cs_operators.proofs.SeenPointers.{is_seen_null, other_seen, null_is_seen}
use Rattle.cs_operators.proofs.pointers.not_null.Goals as goal
use Rattle.cs_operators.proofs.pointers.not_null.Goals.{in-Null, in_default}

pub returns-clause-act : goal.returns-clause-act
returns-clause-act g c =
    let null : is_seen_null c.args.seen ≡ c.match-matches.matches = elim c.match-matches.branch [
      | in-Null w ↦ ap is_seen_null w.in-Null.is ∙ sym w.matches-is
      | in_default w ↦ other_seen c.args.seen w.in_default.not-Null ∙ sym w.matches-is
    ] in
    λ every bases cell sees. c.check.ensures.act every bases (λ v. access.not_null c.args.at (cell v))
    (λ v fits. through_check c.args.at v c.match-matches.matches (cell v)
    (null_is_seen bases v c.args.seen (cell v) sees.named (sees.seen_is v fits) ∙ null))
