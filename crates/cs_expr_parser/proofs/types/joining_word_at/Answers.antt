use Rattle.std.proofs.Common.{Option, Ok, subst}
use Rattle.cs_grammar.specs.declared.type_words.TypeSoFar.{TypeSoFar}
use Rattle.cs_grammar.specs.TypesSoFar.{IsExtended}
use Rattle.cs_expr_parser.specs.Words.{WordAnswer, IsWordAt}
use Rattle.cs_expr_parser.specs.declared.types.NextWord.{NextWord}
use Rattle.cs_expr_parser.proofs.SitesOfWords.{unjoined_stuck, found_known}
use Rattle.cs_expr_parser.proofs.types.joining_word_at.Goals as goal

pub returns-in_default-with-clause-joining : goal.returns-in_default-with-clause-joining
returns-in_default-with-clause-joining c = λ words d.
    let w : IsWordAt c.args.names.now c.args.tokens.now c.args.at c.args.so_far c.in-Some.found =
    subst (λ (x : Option NextWord). WordAnswer c.args.names.now c.args.tokens.now c.args.at c.args.so_far (Ok x)) c.in-Some.is
    c.in_ok-found.ensures.word in
    unjoined_stuck c.args.names.now c.args.tokens.now c.args.at c.args.so_far words c.in-Some.found d w
    (subst (IsExtended c.args.names.now words c.in-Some.found.word) c.in_default-with.is
    (c.with.ensures c.args.names.now words d (found_known c.args.names.now c.args.tokens.now c.args.at c.args.so_far c.in-Some.found w)))
