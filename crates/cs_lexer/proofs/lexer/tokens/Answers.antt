use Rattle.std.proofs.Common.{◌≤◌, length, ap, sym, ◌∙◌, subst, arith}
use Rattle.cs_limits.specs.declared.TheConstants.{MOST_TOKENS}
use Rattle.cs_lexer.specs.Cuttings.{EndsAs}
use Rattle.cs_lexer.specs.Lexing.{IsRefused, tokens_of}
use Rattle.cs_lexer.proofs.Faults.{first_fault}
use Rattle.cs_lexer.proofs.FilesNamed.{end_named}
use Rattle.cs_lexer.proofs.lexer.tokens.Goals as goal

pub name-requires : goal.name-requires
name-requires c =
    let cutting = c.in_ok-cutting.cutting in
    end_named c.args.bytes.now cutting.files cutting.tokens.items cutting.place cutting.end c.in-Refused.fault c.in-Refused.is c.in_ok-cutting.ensures

pub returns-in_ok-file-in-Refused-clause-refused : goal.returns-in_ok-file-in-Refused-clause-refused
returns-in_ok-file-in-Refused-clause-refused c =
    let cutting = c.in_ok-cutting.cutting in
    let few : length (tokens_of cutting.tokens.items) ≤ MOST_TOKENS =
    omega (arith, ap length (c.as_slice.ensures.value ∙ c.in_ok-list.ensures), c.if-as_slice-gt-MOST_TOKENS.false) in
    subst (λ refusal. IsRefused c.args.bytes.now refusal) (sym c.of.ensures)
    (first_fault c.args.bytes.now c.in-Refused.fault cutting.place c.in_ok-file-in-Refused.file cutting.files cutting.tokens.items
    (subst (λ end. EndsAs c.args.bytes.now cutting.files cutting.tokens.items cutting.place end) c.in-Refused.is c.in_ok-cutting.ensures)
    c.in_ok-file-in-Refused.ensures few)
