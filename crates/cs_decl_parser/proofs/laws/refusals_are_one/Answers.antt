use Rattle.cs_decl_parser.proofs.OneRefusal.{refusals_are_one}
use Rattle.cs_decl_parser.proofs.laws.refusals_are_one.Goals as goal

pub returns : goal.returns
returns c = refusals_are_one
