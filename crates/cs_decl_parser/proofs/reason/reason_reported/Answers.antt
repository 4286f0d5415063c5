-- The tokens before a colon, `static`, `typedef`, a dot, or an opening bracket, brace or parenthesis decide whether it is unsupported.
use Rattle.std.proofs.Common.{refl, sym, subst, ◌∙◌}
use Rattle.std.proofs.lemmas.Bool.{false≢true}
use Rattle.cs_grammar.specs.declared.refusal.Reason.{Reason}
use Rattle.cs_decl_parser.specs.FileStops.{IsTokenRefusedAt}
use Rattle.cs_decl_parser.proofs.ReportedReasons.{reported_of_deep, reported_of_others, reported_colon, reported_word, reported_list, reported_brace}
use Rattle.cs_decl_parser.proofs.ReportedReasons.{reported_parenthesis}
use Rattle.cs_decl_parser.proofs.reason.reason_reported.Goals as goal

pub returns-then-is_too_deep : goal.returns-then-is_too_deep
returns-then-is_too_deep c = reported_of_deep c.args.tokens.now c.args.at c.args.reason (sym c.is_too_deep.ensures ∙ c.if-is_too_deep.true)

pub returns-then-is_punctuator : goal.returns-then-is_punctuator
returns-then-is_punctuator c = λ r.
    subst (λ (reported : Reason). IsTokenRefusedAt c.args.tokens.now c.args.at reported) (sym c.unsupported_if.ensures)
    (reported_colon c.args.tokens.now c.args.at c.args.reason c.in_ok-out.out (sym c.is_too_deep.ensures ∙ c.if-is_too_deep.false)
    (c.if-is_punctuator.ensures.punctuator.0 refl) c.in_ok-out.ensures r)

pub returns-then-is_file_word : goal.returns-then-is_file_word
returns-then-is_file_word c = λ r.
    subst (λ (reported : Reason). IsTokenRefusedAt c.args.tokens.now c.args.at reported) (sym c.unsupported_if-then-is_file_word.ensures)
    (reported_word c.args.tokens.now c.args.at c.args.reason c.in_ok-out-2.out (sym c.is_too_deep.ensures ∙ c.if-is_too_deep.false)
    (sym c.is_file_word.ensures.word ∙ c.if-is_file_word.true)
    c.in_ok-out-2.ensures r)

pub returns-then-begins_designator : goal.returns-then-begins_designator
returns-then-begins_designator c = λ r.
    subst (λ (reported : Reason). IsTokenRefusedAt c.args.tokens.now c.args.at reported) (sym c.unsupported_if-then-begins_designator.ensures)
    (reported_list c.args.tokens.now c.args.at c.args.reason c.in_ok-out-3.out (sym c.is_too_deep.ensures ∙ c.if-is_too_deep.false)
    (c.begins_designator.ensures.begins.0 c.if-begins_designator.true) c.in_ok-out-3.ensures r)

pub returns-then-is_punctuator-2 : goal.returns-then-is_punctuator-2
returns-then-is_punctuator-2 c = λ r.
    let flat = sym c.is_too_deep.ensures ∙ c.if-is_too_deep.false in
    subst (λ (reported : Reason). IsTokenRefusedAt c.args.tokens.now c.args.at reported) (sym c.unsupported_if-then-is_punctuator-2.ensures)
    (reported_brace c.args.tokens.now c.args.at c.args.reason c.in_ok-out-4.out flat (c.if-is_punctuator-2.ensures.punctuator.0 refl)
    (λ b. c.in_ok-out-4.ensures b (c.requires.amidst.1 flat)) r)

pub returns-then-is_punctuator-3 : goal.returns-then-is_punctuator-3
returns-then-is_punctuator-3 c = λ r.
    subst (λ (reported : Reason). IsTokenRefusedAt c.args.tokens.now c.args.at reported) (sym c.unsupported_if-then-is_punctuator-3.ensures)
    (reported_parenthesis c.args.tokens.now c.args.at c.args.reason c.in_ok-out-5.out (sym c.is_too_deep.ensures ∙ c.if-is_too_deep.false)
    (c.if-is_punctuator-3.ensures.punctuator.0 refl) c.in_ok-out-5.ensures r)

pub returns : goal.returns
returns c =
    reported_of_others c.args.tokens.now c.args.at c.args.reason (λ k. false≢true (c.if-is_punctuator.ensures.punctuator.1 k))
    (sym c.is_file_word.ensures.word ∙ c.if-is_file_word.false)
    (λ d. false≢true (sym c.if-begins_designator.false ∙ c.begins_designator.ensures.begins.1 d))
    (λ k. false≢true (c.if-is_punctuator-2.ensures.punctuator.1 k)) (λ k. false≢true (c.if-is_punctuator-3.ensures.punctuator.1 k))
