use Rattle.std.proofs.Common.{refl, subst}
use Rattle.cs_grammar.specs.TypesSoFar.{IsExtended}
use Rattle.cs_expr_parser.specs.Positions.{kind_or_end}
use Rattle.cs_declarator_parser.specs.SpecWords.{IsTypeWord}
use Rattle.cs_declarator_parser.proofs.StuckWords.{no_word_fits, word_unfit, plain_taken, word_no_end}
use Rattle.cs_declarator_parser.proofs.PlacingSpecs.{plain_there}
use Rattle.cs_declarator_parser.proofs.specs.plain_word.Goals as goal

pub returns-in_default-clause-word : goal.returns-in_default-clause-word
returns-in_default-clause-word c =
    no_word_fits c.args.source.now.names.now c.args.so_far (kind_or_end c.args.source.now.tokens.now c.args.at)
    (subst (IsTypeWord c.args.source.now.names.now (kind_or_end c.args.source.now.tokens.now c.args.at)) c.in_default.is c.in_ok-word.ensures.word)

pub returns-in-None-clause-word : goal.returns-in-None-clause-word
returns-in-None-clause-word c =
    let w = subst (IsTypeWord c.args.source.now.names.now (kind_or_end c.args.source.now.tokens.now c.args.at)) c.in-Some.is c.in_ok-word.ensures.word in
    word_unfit c.args.source.now.names.now c.args.so_far (kind_or_end c.args.source.now.tokens.now c.args.at) c.in-Some.word w
    (λ before d.
    subst (IsExtended c.args.source.now.names.now before c.in-Some.word) c.in-None.is (c.with.ensures c.args.source.now.names.now before d w.2))

pub returns-in-Some-with-clause-word : goal.returns-in-Some-with-clause-word
returns-in-Some-with-clause-word c =
    let w = subst (IsTypeWord c.args.source.now.names.now (kind_or_end c.args.source.now.tokens.now c.args.at)) c.in-Some.is c.in_ok-word.ensures.word in (
      c.in-Some.word,
      plain_taken c.args.source.now.names.now c.args.source.now.tokens.now c.args.at c.args.so_far c.in-Some.word _
          (word_no_end c.args.source.now.names.now (kind_or_end c.args.source.now.tokens.now c.args.at) c.in-Some.word w) w
          (λ before d.
          subst (IsExtended c.args.source.now.names.now before c.in-Some.word) c.in-Some-with.is (c.with.ensures c.args.source.now.names.now before d w.2))
          refl refl refl,
    )

pub returns-in-Some-with-clause-placed : goal.returns-in-Some-with-clause-placed
returns-in-Some-with-clause-placed c =
    let w = subst (IsTypeWord c.args.source.now.names.now (kind_or_end c.args.source.now.tokens.now c.args.at)) c.in-Some.is c.in_ok-word.ensures.word in
    plain_there c.args.source.now.tokens.now c.args.at c.args.so_far _ c.in-Some.word refl w.1 refl
