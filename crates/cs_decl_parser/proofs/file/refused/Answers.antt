-- The token that was refused, or the end of input, with the reason that is reported.
use Rattle.std.proofs.Common.{subst}
use Rattle.cs_decl_parser.specs.FileStops.{FileStops}
use Rattle.cs_decl_parser.proofs.FileSites.{token_refusal}
use Rattle.cs_decl_parser.proofs.file.refused.Goals as goal

pub returns-in-Ok : goal.returns-in-Ok
returns-in-Ok c = λ s.
    token_refusal c.args.tokens.now c.args.end c.in-Refused.at c.in-Ok.reason c.refusal.result c.refusal.ensures
    (c.in-Ok.ensures (subst (FileStops c.args.tokens.now) c.in-Refused.is s))
