use Rattle.std.proofs.Common.{◌≡◌, List, Option, Result, Ok, Err, sym, ap, ◌∙◌, subst, arith, rules}
use Rattle.cs_ast.specs.declared.raw.written_type.TypeWord.{TypeWord}
use Rattle.cs_expr_parser.specs.LastTokens.{IsStopReported}
use Rattle.cs_expr_parser.specs.Words.{last_tagged, WordsAnswer, JoiningAnswer, IsJoiningAt}
use Rattle.cs_expr_parser.specs.declared.stop.Stop.{Stop}
use Rattle.cs_expr_parser.specs.declared.types.TypeWords.{TypeWords}
use Rattle.cs_expr_parser.specs.declared.types.JoiningWord.{JoiningWord}
use Rattle.cs_expr_parser.proofs.SitesOfReasons.{reported_word, reported_no_type}
use Rattle.cs_expr_parser.proofs.SitesOfWords.{WordsSoFar, nothing_named, tagged_more, word_stops, words_one_more, words_name_nothing}
use Rattle.cs_expr_parser.specs.Places.{IsJoiningTagged}
use Rattle.cs_expr_parser.proofs.TagPlaces.{TagSoFar, one_more_tag}
use Rattle.cs_expr_parser.proofs.types.type_words.Goals as goal

pub returns-in_err-joined-clause-words : goal.returns-in_err-joined-clause-words
returns-in_err-joined-clause-words c =
    let e : c.from_residual.result ≡ Err c.in_err-joined.field-0.0 = search rules in
    subst (WordsAnswer c.args.names.now c.args.tokens.now c.args.from) (sym e)
    (word_stops c.args.names.now c.args.tokens.now c.args.from c.words.next c.words.so_far c.words.words.items c.in_err-joined.field-0.0
    c.words.invariant.so_far
    (c.in_err-joined.ensures.joining c.words.words.items c.words.invariant.so_far.describes))

pub words-preserved : goal.words-preserved
words-preserved c =
    let j : IsJoiningAt c.args.names.now c.words.words.items c.args.tokens.now c.words.next c.in-Some.joined =
    subst (λ (x : Option JoiningWord). JoiningAnswer c.args.names.now c.words.words.items c.args.tokens.now c.words.next (Ok x)) c.in-Some.is
    (c.in_ok-joined.ensures.joining c.words.words.items c.words.invariant.so_far.describes) in
    let o = c.words.invariant.onward in
    let p = j.spelled.onward in
    record {
      onward = omega arith;
      inside = j.spelled.within;
      so_far =
          subst (WordsSoFar c.args.names.now c.args.tokens.now c.args.from c.in-Some.joined.found.next c.in-Some.joined.after) (sym c.in_ok-push.ensures.items)
          (words_one_more c.args.names.now c.args.tokens.now c.args.from c.words.next c.words.so_far c.words.words.items c.in-Some.joined
          c.words.invariant.so_far j);
      tagged = c.has_tag-tagged.ensures ∙ sym (ap last_tagged c.in_ok-push.ensures.items ∙ tagged_more c.words.words.items c.in-Some.joined.found.word);
      placed =
          subst (λ (x : List TypeWord). TagSoFar c.args.tokens.now c.args.from c.in-Some.joined.found.next x c.or-tag.result) (sym c.in_ok-push.ensures.items)
          (one_more_tag c.args.tokens.now c.args.from c.words.next c.in-Some.joined.found.next c.words.words.items c.in-Some.joined.found.word c.words.tag
          c.in-Some.joined.found.tag c.or-tag.result c.words.invariant.placed c.or-tag.ensures
          (subst (λ (x : Option JoiningWord). IsJoiningTagged c.args.tokens.now c.words.next (Ok x)) c.in-Some.is c.in_ok-joined.ensures.placed));
    }

pub returns-then-not-names_type-clause-words : goal.returns-then-not-names_type-clause-words
returns-then-not-names_type-clause-words c =
    words_name_nothing c.args.names.now c.args.tokens.now c.args.from c.words.next c.words.so_far c.words.words.items c.refuse.result c.words.invariant.so_far
    (sym c.names_type.ensures ∙ c.if-not-names_type.true)
    (subst (λ (x : Option JoiningWord). JoiningAnswer c.args.names.now c.words.words.items c.args.tokens.now c.words.next (Ok x)) c.in_default.is
    (c.in_ok-joined.ensures.joining c.words.words.items c.words.invariant.so_far.describes)) c.refuse.ensures

pub returns-in_err-joined-clause-reported : goal.returns-in_err-joined-clause-reported
returns-in_err-joined-clause-reported c =
    let e : c.from_residual.result ≡ Err c.in_err-joined.field-0.0 = search rules in
    subst (IsStopReported c.args.names.now c.args.tokens.now c.args.from) (sym e)
    (reported_word c.args.names.now c.args.tokens.now c.args.from c.words.next c.words.words.items c.in_err-joined.field-0.0 c.words.invariant.so_far.spelled
    (c.in_err-joined.ensures.joining c.words.words.items c.words.invariant.so_far.describes))

pub returns-then-not-names_type-clause-reported : goal.returns-then-not-names_type-clause-reported
returns-then-not-names_type-clause-reported c =
    reported_no_type c.args.names.now c.args.tokens.now c.args.from c.words.next c.words.words.items c.refuse.result c.words.invariant.so_far.spelled
    (nothing_named c.args.names.now c.words.so_far c.words.words.items c.words.invariant.so_far.describes (sym c.names_type.ensures
    ∙ c.if-not-names_type.true)) c.refuse.ensures
