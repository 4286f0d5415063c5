-- The last token determines the result.
use Rattle.std.proofs.Common.{sym, ap, ◌∙◌}
use Rattle.std.specs.Option.{option_copied}
use Rattle.cs_unsupported.specs.declared.declarators.Joint.TheVariants.{Open}
use Rattle.cs_unsupported.proofs.NewNames.{ending_last}
use Rattle.cs_unsupported.proofs.declarators.last_joint.Goals as goal

pub returns-in-Some : goal.returns-in-Some
returns-in-Some c = c.joint_after.ensures
    ∙ sym (ending_last c.args.tokens.now c.in-Some.token.now Open (sym c.last.ensures.value ∙ ap option_copied c.in-Some.is))
