-- Each return is the refusal of the colon, or the keyword with it.
use Rattle.std.proofs.Common.{refl, sym, ◌∙◌}
use Rattle.std.proofs.lemmas.Bool.{false≢true}
use Rattle.cs_decl_parser.proofs.BlockSites.{default_stops, default_taken}
use Rattle.cs_decl_parser.proofs.branches.default.Goals as goal

pub returns-then-not-is_punctuator-clause-parsed : goal.returns-then-not-is_punctuator-clause-parsed
returns-then-not-is_punctuator-clause-parsed c =
    λ limit.
    default_stops c.args.source.now.names.now limit c.args.source.now.tokens.now c.args.from c.refuse.result c.requires.stands
    (λ k. false≢true (sym c.if-not-is_punctuator.true ∙ c.is_punctuator.ensures.punctuator.1 k)) c.refuse.ensures.is

pub returns-clause-parsed : goal.returns-clause-parsed
returns-clause-parsed c =
    λ limit.
    default_taken c.args.source.now.names.now limit c.args.source.now.tokens.now c.args.from _ c.requires.stands
    (c.is_punctuator.ensures.punctuator.0 c.if-not-is_punctuator.false) refl refl refl

pub returns-clause-placed : goal.returns-clause-placed
returns-clause-placed c = c.place_at.ensures
