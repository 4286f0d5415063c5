-- The token that decides, given the last one.
use Rattle.std.proofs.Common.{sym, ◌∙◌}
use Rattle.cs_unsupported.specs.Readings.{kinds}
use Rattle.cs_unsupported.proofs.NameFiles.{asked_none, asked_star, asked_new}
use Rattle.cs_unsupported.proofs.declarators.token_for_name.Goals as goal

pub returns-in-Barred : goal.returns-in-Barred
returns-in-Barred c = λ none. asked_none (kinds c.args.before.now) (sym c.last_joint.ensures ∙ c.in-Barred.is)

pub returns-in-Listed : goal.returns-in-Listed
returns-in-Listed c = asked_star (kinds c.args.before.now) (sym c.last_joint.ensures ∙ c.in-Listed.is)

pub returns-in_ok-name-in-Open : goal.returns-in_ok-name-in-Open
returns-in_ok-name-in-Open c =
    asked_new c.in_ok-name-in-Open.name (kinds c.args.before.now) c.in_ok-name-in-Open.ensures (sym c.last_joint.ensures ∙ c.in-Open.is)
